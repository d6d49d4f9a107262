-- Where a function has both properties: forms exist and are enabled on the documents of their lists, and forms
-- and documents depend on a list only by its set. All four go together, by induction on the length of the list.
use Rattle.std.proofs.Common.{◌≡◌, ◌≢◌, ℕ, zero, suc, ◌<◌, false, List, [], ◌∷◌, length, Option, Some, None, refl, sym}
use Rattle.std.proofs.Common.{ap, ap₂, ◌∙◌, subst, inl, inr, arith}
use Rattle.std.proofs.lemmas.Bool.{cases_eq, false≢true}
use Rattle.ot_model.specs.declared.cell.Cell.{Cell}
use Rattle.ot_model.specs.Effect.{IsEnabled}
use Rattle.fn_rules.specs.Functions.{Function}
use Rattle.fn_rules.specs.Transformation.{IsAllowed}
use Rattle.fn_rules.specs.Properties.{ConvergesAt, CommutesAt, commutes_exchanged}
use Rattle.fn_rules.specs.Forms.{CarriesForms}
use Rattle.ot_causal.specs.Members.{has, without, HaveOneSet}
use Rattle.ot_causal.specs.Past.{Past, IsNext, IsClosed, IsReady, IsOrderly, IsOpening}
use Rattle.ot_causal.specs.Forms.{newest_open, transformed, form, state}
use Rattle.ot_causal.specs.Sessions.{IsBorn, IsSoundPast}
use Rattle.ot_causal.specs.Convergence.{HasState}
use Rattle.ot_causal.proofs.Members.{same_Bool, has-itself, without-newest, HaveOneSet-sym, HaveOneSet-older}
use Rattle.ot_causal.proofs.Members.{HaveOneSet-without, HaveOneSet-taken_out}
use Rattle.ot_causal.proofs.Closed.{IsDistinct-closed, before-none_open, newest_open-none, IsNext-without}
use Rattle.ot_causal.proofs.Forms.{form-none_open, form-newest_open, state-nil}
use Rattle.ot_causal.proofs.Born.{IsOrderly-sound, IsAllowed-apart}
use Rattle.ot_causal.proofs.Openings.{IsDiamond, IsNext-newer, IsOpening-newest_open, IsFree-newest, IsDiamond-free}
use Rattle.ot_causal.proofs.Pairs.{HasFormOn, after, state-executed, state-same_older, ConvergesAt-there}
use Rattle.ot_causal.proofs.Pairs.{CommutesAt-there, HasFormOn-behind, state-flip, form-behind_two}

-- what is shown of the lists that are shorter than a number
pub record Below (f : Function) (past : Past) (first : List Cell) (n : ℕ) : Type 0 where
  pub states : (l : List ℕ) → length l < n → IsClosed past l → HasState f past first l
  pub same_states : (l m : List ℕ) → length l < n → IsClosed past l → IsClosed past m → HaveOneSet l m
      → state f past first l ≡ state f past first m
  pub forms : (o : ℕ) (l : List ℕ) (d : List Cell) → length l < n → IsReady past o l
      → state f past first l ≡ Some d → HasFormOn f past d o l
  pub same_forms : (o : ℕ) (l m : List ℕ) → length l < n → IsReady past o l → IsReady past o m → HaveOneSet l m
      → form f past o l ≡ form f past o m

module _ (f : Function) (both : CarriesForms f) (no_chars : f.head.chars_differ ≡ false)
    (past : Past) (first : List Cell) (sound : IsSoundPast f past first) (n : ℕ) (below : Below f past first n) where
  order : IsOrderly past
  order = IsOrderly-sound f past first sound

  -- operations that are next behind one list, of which none is before the other, may be with each other
  IsAllowed-next : (x y : ℕ) (l : List ℕ) → IsNext past l x → IsNext past l y → x ≢ y → past.before x y ≡ false
      → past.before y x ≡ false
      → IsAllowed f (past.operation x) (past.operation y)
  IsAllowed-next x y l next_x next_y = IsAllowed-apart f past first sound no_chars x y next_x.made next_y.made

  states_next : (l : List ℕ) → length l < suc n → IsClosed past l → HasState f past first l
  states_next [] short closed = record { document = first; is = state-nil f past first }
  states_next (o ∷ l) short closed = record {
    document = after f as_o.there older.document;
    is = state-executed f both past first o l older.document older.is as_o;
  }
    where
      older : HasState f past first l
      older = below.states l (omega (arith, short)) closed.1

      as_o : HasFormOn f past older.document o l
      as_o = below.forms o l older.document (omega (arith, short)) closed older.is

  -- two members taken out of two lists of one set: each list, with its member as the newest, leads to one
  -- document
  states_diamond : (x y : ℕ) (l m out : List ℕ) → x ≢ y → IsDiamond past x y l m out → length (without x l) < n
      → IsClosed past (x ∷ without x l) → IsClosed past (y ∷ without y m)
      → state f past first (x ∷ without x l) ≡ state f past first (y ∷ without y m)
  states_diamond x y l m out differ diamond short closed_l closed_m =
      state-same_older f both past first x (without x l) (y ∷ out)
      (below.same_states (without x l) (y ∷ out) short closed_l.1 (diamond.next_y, diamond.closed) diamond.left)
      (below.same_forms x (without x l) (y ∷ out) short closed_l
      (x_behind_y, (diamond.next_y, diamond.closed)) diamond.left)
      ∙ state-flip f both past first x y out there.document there.is as_x as_y
      (ConvergesAt-there f both past there.document x y out as_x as_y
      (IsAllowed-next x y out diamond.next_x diamond.next_y differ diamond.apart diamond.apart_back))
      diamond.apart diamond.apart_back
      ∙ state-same_older f both past first y (x ∷ out) (without y m)
      (below.same_states (x ∷ out) (without y m) also_short (diamond.next_x, diamond.closed) closed_m.1 diamond.right)
      (below.same_forms y (x ∷ out) (without y m) also_short
      (y_behind_x, (diamond.next_x, diamond.closed)) closed_m diamond.right)
    where
      also_short : suc (length out) < n
      also_short = omega (arith, short, diamond.shorter)

      there : HasState f past first out
      there = below.states out (omega (arith, also_short)) diamond.closed

      as_x : HasFormOn f past there.document x out
      as_x = below.forms x out there.document (omega (arith, also_short)) (diamond.next_x, diamond.closed) there.is

      as_y : HasFormOn f past there.document y out
      as_y = below.forms y out there.document (omega (arith, also_short)) (diamond.next_y, diamond.closed) there.is

      x_behind_y : IsNext past (y ∷ out) x
      x_behind_y = IsNext-newer past y out x differ diamond.next_x

      y_behind_x : IsNext past (x ∷ out) y
      y_behind_x = IsNext-newer past x out y (λ same_member. differ (sym same_member)) diamond.next_y

  -- two closed lists of one set lead to one document
  same_states_next : (l m : List ℕ) → length l < suc n → IsClosed past l → IsClosed past m → HaveOneSet l m
      → state f past first l ≡ state f past first m
  same_states_next [] [] short closed_l closed_m same = refl
  same_states_next [] (y ∷ m) short closed_l closed_m same = absurd (false≢true (same.at y ∙ has-itself y m))
  same_states_next (x ∷ l) [] short closed_l closed_m same = absurd (false≢true (sym (same.at x) ∙ has-itself x l))
  same_states_next (x ∷ l) (y ∷ m) short closed_l closed_m same = elim (cases_eq x y) [
    | inl one ↦ (let closed_x : IsClosed past (x ∷ m) = subst (λ (z : ℕ). IsClosed past (z ∷ m)) (sym one) closed_m in
        let same_x : HaveOneSet (x ∷ l) (x ∷ m) = subst (λ (z : ℕ). HaveOneSet (x ∷ l) (z ∷ m)) (sym one) same in
        let same_older : HaveOneSet l m = HaveOneSet-older x l m closed_l.0.new closed_x.0.new same_x in
        state-same_older f both past first x l m
        (below.same_states l m (omega (arith, short)) closed_l.1 closed_x.1 same_older)
        (below.same_forms x l m (omega (arith, short)) closed_l closed_x same_older)
        ∙ ap (λ z. state f past first (z ∷ m)) one)
    | inr differ ↦
        ap (λ older. state f past first (x ∷ older)) (sym (without-newest x l))
        ∙ states_diamond x y (x ∷ l) (y ∷ m) (without y (without x (x ∷ l))) differ
        (IsDiamond-free past order x y (x ∷ l) (y ∷ m) differ closed_l closed_m same (has-itself x l) (has-itself y m)
        (IsFree-newest past order x l closed_l) (IsFree-newest past order y m closed_m))
        (rw (without-newest x l) (omega (arith, short)))
        (rw (without-newest x l) closed_l) (rw (without-newest y m) closed_m)
        ∙ ap (λ older. state f past first (y ∷ older)) (without-newest y m)
  ]

  -- the form exists and is enabled on the document of the list
  forms_next : (o : ℕ) (l : List ℕ) (d : List Cell) → length l < suc n → IsReady past o l
      → state f past first l ≡ Some d
      → HasFormOn f past d o l
  forms_next o l d short ready leads = by (newest_open past o l) refl
    where
      -- all of the list is before it: then the list has the set on which it was made
      as_made : newest_open past o l ≡ None → HasFormOn f past d o l
      as_made none = record {
        there = past.operation o;
        is = form-none_open f past o l none;
        integrable = record {
          declared = both.keeps.made (past.operation o) born.declared;
          enabled = subst (λ (document : List Cell). IsEnabled (past.operation o) (length document))
              same_document born.enabled;
        };
        allowed = λ other allowed. allowed;
      }
        where
          born : IsBorn f past first o
          born = sound.born o ready.0.made

          same_document : born.document ≡ d
          same_document =
              let one_set : HaveOneSet l born.known = record {
                at = λ z.
                    same_Bool (has l z) (past.before z o) (before-none_open past o l z none) (ready.0.knows z)
                    ∙ sym (born.befores z);
              } in
              let one : Some born.document ≡ Some d =
              sym born.is ∙ sym (same_states_next l born.known short ready.1 born.closed one_set) ∙ leads in
              cc

      -- otherwise it is transformed by the newest open member
      moved : (x : ℕ) → newest_open past o l ≡ Some x → HasFormOn f past d o l
      moved x found = subst (λ (document : List Cell). HasFormOn f past document o l) same_document
          (HasFormOn-behind f both past there.document x o (without x l) l as_x as_o converges
          (form-newest_open f past o l x found))
        where
          opening : IsOpening past o l x
          opening = IsOpening-newest_open past order o l x ready found

          shorter : length (without x l) < n
          shorter = omega (arith, short, opening.shorter)

          there : HasState f past first (without x l)
          there = below.states (without x l) shorter opening.closed

          as_x : HasFormOn f past there.document x (without x l)
          as_x = below.forms x (without x l) there.document shorter (opening.next_member, opening.closed) there.is

          as_o : HasFormOn f past there.document o (without x l)
          as_o = below.forms o (without x l) there.document shorter (opening.next, opening.closed) there.is

          converges : ConvergesAt f there.document as_x.there as_o.there
          converges = ConvergesAt-there f both past there.document x o (without x l) as_x as_o
              (IsAllowed-next x o (without x l) opening.next_member opening.next opening.differ
              opening.apart opening.apart_back)

          same_document : after f as_x.there there.document ≡ d
          same_document =
              let one : Some (after f as_x.there there.document) ≡ Some d =
              sym (state-executed f both past first x (without x l) there.document there.is as_x)
              ∙ sym (same_states_next l (x ∷ without x l) short ready.1 (opening.next_member, opening.closed)
              (HaveOneSet-taken_out x l opening.member))
              ∙ leads in
              cc

      by : (found : Option ℕ) → newest_open past o l ≡ found → HasFormOn f past d o l
      by None none = as_made none
      by (Some x) found = moved x found

  -- two members x and y taken out of two lists of one set: the form of an operation is the same, whichever of the
  -- two it is transformed by last
  forms_diamond : (o x y : ℕ) (l m out : List ℕ) → x ≢ y → IsDiamond past x y l m out → length (without x l) < n
      → IsOpening past o l x → IsOpening past o m y → IsNext past out o
      → transformed f (form f past o (without x l)) (form f past x (without x l))
      ≡ transformed f (form f past o (without y m)) (form f past y (without y m))
  forms_diamond o x y l m out differ diamond short at_x at_y next_o =
      ap₂ (transformed f)
      (below.same_forms o (without x l) (y ∷ out) short (at_x.next, at_x.closed)
      (o_behind y at_y.differ, (diamond.next_y, diamond.closed)) diamond.left)
      (below.same_forms x (without x l) (y ∷ out) short (at_x.next_member, at_x.closed)
      (x_behind_y, (diamond.next_y, diamond.closed)) diamond.left)
      ∙ form-behind_two f both past y x o out there.document as_y as_x as_o
      (commutes_exchanged f as_x.there as_y.there as_o.there commutes) diamond.apart_back at_y.apart
      ∙ sym (form-behind_two f both past x y o out there.document as_x as_y as_o commutes diamond.apart at_x.apart)
      ∙ ap₂ (transformed f)
      (below.same_forms o (x ∷ out) (without y m) also_short (o_behind x at_x.differ, (diamond.next_x, diamond.closed))
      (at_y.next, at_y.closed) diamond.right)
      (below.same_forms y (x ∷ out) (without y m) also_short (y_behind_x, (diamond.next_x, diamond.closed))
      (at_y.next_member, at_y.closed) diamond.right)
    where
      also_short : suc (length out) < n
      also_short = omega (arith, short, diamond.shorter)

      there : HasState f past first out
      there = below.states out (omega (arith, also_short)) diamond.closed

      as_x : HasFormOn f past there.document x out
      as_x = below.forms x out there.document (omega (arith, also_short)) (diamond.next_x, diamond.closed) there.is

      as_y : HasFormOn f past there.document y out
      as_y = below.forms y out there.document (omega (arith, also_short)) (diamond.next_y, diamond.closed) there.is

      as_o : HasFormOn f past there.document o out
      as_o = below.forms o out there.document (omega (arith, also_short)) (next_o, diamond.closed) there.is

      commutes : CommutesAt f as_x.there as_y.there as_o.there
      commutes = CommutesAt-there f both past there.document x y o out as_x as_y as_o
          (IsAllowed-next x y out diamond.next_x diamond.next_y differ diamond.apart diamond.apart_back)
          (IsAllowed-next x o out diamond.next_x next_o at_x.differ at_x.apart at_x.apart_back)
          (IsAllowed-next y o out diamond.next_y next_o at_y.differ at_y.apart at_y.apart_back)

      o_behind : (z : ℕ) → z ≢ o → IsNext past (z ∷ out) o
      o_behind z other = IsNext-newer past z out o (λ same_member. other (sym same_member)) next_o

      x_behind_y : IsNext past (y ∷ out) x
      x_behind_y = IsNext-newer past y out x differ diamond.next_x

      y_behind_x : IsNext past (x ∷ out) y
      y_behind_x = IsNext-newer past x out y (λ same_member. differ (sym same_member)) diamond.next_y

  -- the form behind two ready lists of one set is the same
  same_forms_next : (o : ℕ) (l m : List ℕ) → length l < suc n → IsReady past o l → IsReady past o m → HaveOneSet l m
      → form f past o l ≡ form f past o m
  same_forms_next o l m short ready_l ready_m same = by (newest_open past o l) (newest_open past o m) refl refl
    where
      -- a member of both that is open in one is open in the other
      none_there : (one other : List ℕ) → HaveOneSet one other → newest_open past o other ≡ None
          → newest_open past o one ≡ None
      none_there one other one_set none =
          newest_open-none past o one (λ z member. before-none_open past o other z none (sym (one_set.at z) ∙ member))

      -- the newest open members of both lists, which are one or two
      at_both : (x y : ℕ) → newest_open past o l ≡ Some x → newest_open past o m ≡ Some y
          → transformed f (form f past o (without x l)) (form f past x (without x l))
          ≡ transformed f (form f past o (without y m)) (form f past y (without y m))
      at_both x y found_x found_y = elim (cases_eq x y) [
        | inl one ↦ (let at_x : IsOpening past o l x = IsOpening-newest_open past order o l x ready_l found_x in
            let at_m : IsOpening past o m x =
            IsOpening-newest_open past order o m x ready_m (found_y ∙ ap Some (sym one)) in
            let one_set : HaveOneSet (without x l) (without x m) =
            HaveOneSet-without x l m (IsDistinct-closed past l ready_l.1) (IsDistinct-closed past m ready_m.1) same in
            ap₂ (transformed f)
            (below.same_forms o (without x l) (without x m) (omega (arith, short, at_x.shorter))
            (at_x.next, at_x.closed) (at_m.next, at_m.closed) one_set)
            (below.same_forms x (without x l) (without x m) (omega (arith, short, at_x.shorter))
            (at_x.next_member, at_x.closed) (at_m.next_member, at_m.closed) one_set)
            ∙ ap (λ z. transformed f (form f past o (without z m)) (form f past z (without z m))) one)
        | inr differ ↦ (let at_x : IsOpening past o l x = IsOpening-newest_open past order o l x ready_l found_x in
            let at_y : IsOpening past o m y = IsOpening-newest_open past order o m y ready_m found_y in
            forms_diamond o x y l m (without y (without x l)) differ
            (IsDiamond-free past order x y l m differ ready_l.1 ready_m.1 same at_x.member
            at_y.member at_x.free at_y.free)
            (omega (arith, short, at_x.shorter)) at_x at_y (IsNext-without past y (without x l) o at_x.next at_y.apart))
      ]

      by : (found other : Option ℕ) → newest_open past o l ≡ found → newest_open past o m ≡ other
          → form f past o l ≡ form f past o m
      by None other none is =
          form-none_open f past o l none ∙ sym (form-none_open f past o m (none_there m l (HaveOneSet-sym same) none))
      by (Some x) None found none =
          form-none_open f past o l (none_there l m same none) ∙ sym (form-none_open f past o m none)
      by (Some x) (Some y) found_x found_y =
          form-newest_open f past o l x found_x ∙ at_both x y found_x found_y
          ∙ sym (form-newest_open f past o m y found_y)

  Below-next : Below f past first (suc n)
  Below-next =
      record { states = states_next; same_states = same_states_next; forms = forms_next; same_forms = same_forms_next }

-- all of it, for every length
pub Below-all : (f : Function) → CarriesForms f → f.head.chars_differ ≡ false
    → (past : Past) (first : List Cell) → IsSoundPast f past first → (n : ℕ) → Below f past first n
Below-all f both no_chars past first sound zero = record {
  states = λ l short. absurd (omega (arith, short));
  same_states = λ l m short. absurd (omega (arith, short));
  forms = λ o l d short. absurd (omega (arith, short));
  same_forms = λ o l m short. absurd (omega (arith, short));
}
Below-all f both no_chars past first sound (suc n) =
    Below-next f both no_chars past first sound n (Below-all f both no_chars past first sound n)
