-- The form of an operation behind a list, when its two parts were sought and made: that of the operation and that of
-- the newest open member, both behind the list without that member.
use Rattle.std.proofs.Common.{◌≡◌, ◌≢◌, ◌↔◌, ◌≤◌, ◌+◌, ◌++◌, ◌∷◌, [], ℕ, true, false, List, length, Option, Some, None}
use Rattle.std.proofs.Common.{sym, ◌∙◌, subst, arith}
use Rattle.std.specs.Coded.{Coded-set, coded_bool}
use Rattle.std.proofs.Math.Logic.{∥∥₁_elim, ∥∥₁_map, ∥∥₁_map₂, ∥∥₁_prop}
use Rattle.indexmap.specs.IndexMap.{insert_entry}
use Rattle.ot_model.specs.declared.op.Op.{Op}
use Rattle.fn_rules.specs.Functions.{Function}
use Rattle.ot_causal.specs.Members.{without, have_one_set, HaveOneSet}
use Rattle.ot_causal.specs.Past.{Past, IsClosed, IsOrderly, IsReady}
use Rattle.ot_causal.specs.Forms.{form}
use Rattle.ot_causal.specs.Counting.{FormName, name_of, is_among, sought, count_sought, from_site, AreCounted}
use Rattle.ot_session.specs.declared.limits.TheConstants.{MAX_FORMS}
use Rattle.ot_session.specs.declared.table.Key.{Key}
use Rattle.ot_session.specs.Lists.{clock}
use Rattle.ot_session.specs.Seeking.{Obstacle, Missing, Exhausted, first_obstacle}
use Rattle.ot_session.specs.Entries.{is_same_key, form_under, HasForms, MaySeek, Seeks}
use Rattle.ot_session.proofs.Seeking.{first_obstacle-exhausted, first_obstacle-missing, first_obstacle-there}
use Rattle.ot_session.proofs.Sought.{first_obstacle-itself, count_sought-itself}
use Rattle.ot_session.proofs.Tables.{unstored-new, HasForms-insert}

module _ (f : Function) (past : Past) (seen : List ℕ) (o x : ℕ) (l : List ℕ) (names : List FormName) (others : ℕ)
    (joined : (first more : List FormName)
    → count_sought names (first ++ more) ≡ count_sought (count_sought names first) more) where
  -- what was counted with the first part
  abbrev first : List FormName
  first = count_sought names (sought past o (without x l))

  -- and with both
  abbrev second : List FormName
  second = count_sought first (sought past x (without x l))

  -- a form that is not in the table was not counted when its parts were
  pub new-unstored : ((s : ℕ) (k n : List ℕ) → IsClosed past k → IsClosed past n → HaveOneSet k n
      → from_site past s k ≡ from_site past s n)
      → ((k n : List ℕ) → (have_one_set k n ≡ true) ↔ HaveOneSet k n)
      → (IsOrderly past → IsReady past o l → is_among names (name_of o l) ≡ false
      → is_among (count_sought names (sought past o (without x l) ++ sought past x (without x l))) (name_of o l)
      ≡ false)
      → (counts : List ℕ) (entries : List (Key × Op)) → counts ≡ clock past l
      → form_under (record { number = o; counts = counts }) entries ≡ None
      → ∥ MaySeek f past seen o l ∥₁ → ∥ HasForms f past seen names entries ∥₁ → is_among second (name_of o l) ≡ false
  new-unstored told tested last counts entries same none may has =
      ∥∥₁_elim (∥∥₁_map₂ may has (λ m h.
      subst (λ (more : List FormName). is_among more (name_of o l) ≡ false)
      (joined (sought past o (without x l)) (sought past x (without x l))) (last m.orderly m.sought.ready
      (unstored-new past seen told tested names entries o l m.sought.ready.1 h.counted h.stored
      (subst (λ (cs : List ℕ). form_under (record { number = o; counts = cs }) entries ≡ None) same none)))))
      (Coded-set coded_bool _ _) (λ is. is)

  -- the two parts were sought behind lists that are the list without the member, and the form itself was not counted
  module _ (split : sought past o l ≡ sought past o (without x l) ++ sought past x (without x l) ++ name_of o l ∷ [])
      (older again : List ℕ) (is_older : older ≡ without x l) (is_again : again ≡ without x l)
      (entries more : List (Key × Op)) (total rest : ℕ)
      (own_part : Seeks f past seen names others o older entries total)
      (other_part : (ns : List FormName) (m : ℕ) → ∥ HasForms f past seen ns entries ∥₁ → total ≡ m + length ns
      → Seeks f past seen ns m x again more rest)
      (new : is_among second (name_of o l) ≡ false) where
    own : Seeks f past seen names others o (without x l) entries total
    own = subst (λ (m : List ℕ). Seeks f past seen names others o m entries total) is_older own_part

    part : Seeks f past seen first others x (without x l) more rest
    part = subst (λ (m : List ℕ). Seeks f past seen first others x m more rest) is_again
        (other_part first others own.table own.count)

    -- what is in the way of the form itself is in the way
    itself : (found : Option Obstacle)
        → first_obstacle f past (others + length second) second (name_of o l ∷ []) ≡ found
        → first_obstacle f past (others + length names) names (sought past o l) ≡ found
    itself found is = first_obstacle-itself f past seen o x l split names others own.free joined part.free found is

    -- it is not counted where the count is spent
    pub exhausted : rest ≡ MAX_FORMS
        → first_obstacle f past (others + length names) names (sought past o l) ≡ Some Exhausted
    exhausted full = itself (Some Exhausted)
        (first_obstacle-exhausted f past (others + length second) second (name_of o l) new (sym part.count ∙ full))

    module _ (now : ℕ) (one_more : now ≡ rest + 1) (within : now ≤ MAX_FORMS) where
      unspent : others + length second ≢ MAX_FORMS
      unspent same = omega (arith, same, part.count, one_more, within)

      -- it is counted, and does not exist
      pub missing : form f past o l ≡ None
          → first_obstacle f past (others + length names) names (sought past o l) ≡ Some (Missing now)
      missing none =
          let counted : others + length second + 1 ≡ now = omega (arith, part.count, one_more) in
          itself (Some (Missing now))
          (subst (λ (m : ℕ). first_obstacle f past (others + length second) second (name_of o l ∷ []) ≡ Some (Missing
          m)) counted (first_obstacle-missing f past (others + length second) second (name_of o l) new unspent none))

      -- or it is counted, made and stored
      pub stored : ((k n : List ℕ) → (have_one_set k n ≡ true) ↔ HaveOneSet k n)
          → (MaySeek f past seen o l → AreCounted past seen names
          → AreCounted past seen (count_sought names (sought past o l)))
          → (p : Op) (counts : List ℕ) (before after : List (Key × Op))
          → form f past o l ≡ Some p → counts ≡ clock past l
          → after ≡ insert_entry is_same_key more (record { number = o; counts = counts }) p
          → ∥ MaySeek f past seen o l ∥₁ → ∥ HasForms f past seen names before ∥₁
          → Seeks f past seen names others o l after now
      stored tested kept p counts before after is same store may has =
          let last : count_sought names (sought past o l) ≡ name_of o l ∷ second =
          count_sought-itself f past seen o x l split names others own.free joined part.free new in
          let both : ∥ MaySeek f past seen o l × HasForms f past seen names before ∥₁ =
          ∥∥₁_map₂ may has (λ m h. (m, h)) in
          record {
            free = itself None
                (first_obstacle-there f past (others + length second) second (name_of o l) p new unspent is);
            table = rw (last, store, same) (∥∥₁_elim both ∥∥₁_prop (λ b. ∥∥₁_map part.table (λ h.
                HasForms-insert f past seen second o l p more tested h b.0.sought is
                (subst (λ (ns : List FormName). AreCounted past seen ns) last (kept b.0 b.1.counted)))));
            count = rw last (omega (arith, part.count, one_more));
          }
