-- What was made stays as it was when more is made: closed lists, forms, the documents that lists lead to, and
-- counts.
use Rattle.std.proofs.Common.{◌≡◌, ℕ, zero, suc, ◌<◌, cond, not, List, [], ◌∷◌, ◌++◌, length, Option, Some, None, refl}
use Rattle.std.proofs.Common.{sym, ap, ap₂, ◌∙◌, arith}
use Rattle.std.specs.Option.{option_and_then, option_map_or}
use Rattle.ot_model.specs.declared.cell.Cell.{Cell}
use Rattle.fn_rules.specs.Functions.{Function}
use Rattle.ot_causal.specs.Members.{without}
use Rattle.ot_causal.specs.Past.{Past, IsNext, IsClosed, AreMade, Extends}
use Rattle.ot_causal.specs.Forms.{newest_open, transformed, form_within, form, executed, state}
use Rattle.ot_causal.specs.Counting.{name_of, sought_within, sought, counted, count_sought}
use Rattle.ot_causal.proofs.Members.{has-itself}
use Rattle.ot_causal.proofs.Closed.{AreMade-without, AreMade-older, has-newest_open}

module _ (old new : Past) (extends : Extends old new) where
  pub IsNext-extended : (l : List ℕ) (o : ℕ) → IsNext old l o → IsNext new l o
  IsNext-extended l o next = record {
    made = omega (arith, next.made, extends.more);
    new = next.new;
    knows = λ x before. next.knows x (sym (extends.befores x o next.made) ∙ before);
  }

  pub IsClosed-extended : (l : List ℕ) → IsClosed old l → IsClosed new l
  IsClosed-extended [] closed = tt
  IsClosed-extended (o ∷ l) closed = (IsNext-extended l o closed.0, IsClosed-extended l closed.1)

  pub newest_open-extended : (o : ℕ) (l : List ℕ) → o < old.count → newest_open new o l ≡ newest_open old o l
  newest_open-extended o [] made = refl
  newest_open-extended o (y ∷ l) made =
      ap (λ before. cond (not before) (Some y) (newest_open new o l)) (extends.befores y o made)
      ∙ ap (λ rest. cond (not (old.before y o)) (Some y) rest) (newest_open-extended o l made)

  -- a value that the newest open member decides
  by_newest_open : {T : Type 0} (at_new at_old : ℕ → T) (none_new none_old : T) (o : ℕ) (l : List ℕ)
      → o < old.count → AreMade old l
      → ((x : ℕ) → x < old.count → at_new x ≡ at_old x) → none_new ≡ none_old
      → option_map_or at_new (newest_open new o l) none_new ≡ option_map_or at_old (newest_open old o l) none_old
  by_newest_open {T} at_new at_old none_new none_old o l made all same none_same =
      ap (λ found. option_map_or at_new found none_new) (newest_open-extended o l made) ∙ by (newest_open old o l) refl
    where
      by : (found : Option ℕ) → newest_open old o l ≡ found
          → option_map_or at_new found none_new ≡ option_map_or at_old found none_old
      by None is = none_same
      by (Some x) is = same x (all.at x (has-newest_open old o l x is))

  -- a form stays, by induction on the depth to which it is computed
  form_within-extended : (f : Function) (depth o : ℕ) (l : List ℕ) → o < old.count → AreMade old l
      → form_within depth f new o l ≡ form_within depth f old o l
  unfolding form_within
  form_within-extended f zero o l made all = ap Some (extends.operations o made)
  form_within-extended f (suc depth) o l made all = by_newest_open
      (λ x. transformed f (form_within depth f new o (without x l)) (form_within depth f new x (without x l)))
      (λ x. transformed f (form_within depth f old o (without x l)) (form_within depth f old x (without x l)))
      (Some (new.operation o)) (Some (old.operation o)) o l made all
      (λ x made_x. ap₂ (transformed f)
      (form_within-extended f depth o (without x l) made (AreMade-without old x l all))
      (form_within-extended f depth x (without x l) made_x (AreMade-without old x l all)))
      (ap Some (extends.operations o made))

  pub form-extended : (f : Function) (o : ℕ) (l : List ℕ) → o < old.count → AreMade old l
      → form f new o l ≡ form f old o l
  unfolding form
  form-extended f o l made all = form_within-extended f (length l) o l made all

  pub state-extended : (f : Function) (first : List Cell) (l : List ℕ) → AreMade old l
      → state f new first l ≡ state f old first l
  unfolding state
  state-extended f first [] all = refl
  state-extended f first (o ∷ l) all =
      ap (λ p. option_and_then (λ d. executed f p d) (state f new first l))
      (form-extended f o l (all.at o (has-itself o l)) (AreMade-older old o l all))
      ∙ ap (option_and_then (λ d. executed f (form f old o l) d)) (state-extended f first l (AreMade-older old o l all))

  -- so do the forms that are sought
  sought_within-extended : (depth o : ℕ) (l : List ℕ) → o < old.count → AreMade old l
      → sought_within depth new o l ≡ sought_within depth old o l
  unfolding sought_within
  sought_within-extended zero o l made all = refl
  sought_within-extended (suc depth) o l made all = by_newest_open
      (λ x. sought_within depth new o (without x l) ++ sought_within depth new x (without x l) ++ name_of o l ∷ [])
      (λ x. sought_within depth old o (without x l) ++ sought_within depth old x (without x l) ++ name_of o l ∷ [])
      [] [] o l made all
      (λ x made_x. ap₂ (λ of_o of_x. of_o ++ of_x ++ name_of o l ∷ [])
      (sought_within-extended depth o (without x l) made (AreMade-without old x l all))
      (sought_within-extended depth x (without x l) made_x (AreMade-without old x l all)))
      refl

  pub sought-extended : (o : ℕ) (l : List ℕ) → o < old.count → AreMade old l → sought new o l ≡ sought old o l
  unfolding sought
  sought-extended o l made all = sought_within-extended (length l) o l made all

  pub counted-extended : (l : List ℕ) → AreMade old l → counted new l ≡ counted old l
  unfolding counted
  counted-extended [] all = refl
  counted-extended (o ∷ l) all = ap₂ count_sought
      (counted-extended l (AreMade-older old o l all))
      (sought-extended o l (all.at o (has-itself o l)) (AreMade-older old o l all))

  -- what was closed among what was made is closed still
  pub IsClosed-among_made : (l : List ℕ) → AreMade old l → IsClosed new l → IsClosed old l
  IsClosed-among_made [] all closed = tt
  IsClosed-among_made (o ∷ l) all closed = (
    record {
      made = all.at o (has-itself o l);
      new = closed.0.new;
      knows = λ x before. closed.0.knows x (extends.befores x o (all.at o (has-itself o l)) ∙ before);
    },
    IsClosed-among_made l (AreMade-older old o l all) closed.1,
  )
