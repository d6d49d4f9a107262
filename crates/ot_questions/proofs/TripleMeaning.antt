-- The plan of a triple means TP2 for its kinds.
use Rattle.std.proofs.Common.{◌≡◌, ℕ, ℤ, pos, ◌+ℤ◌, true, int_le, Option, Some, None, [], ◌∷◌, length, refl, sym, ◌∙◌}
use Rattle.std.proofs.Common.{subst, inl, inr, ◌⊎◌}
use Rattle.std.specs.List.{Contains}
use Rattle.std.proofs.lemmas.Bool.Decides.{Decides-and}
use Rattle.ot_model.specs.declared.op.Kind.{Kind}
use Rattle.ot_model.specs.declared.op.Op.{Op}
use Rattle.ot_model.specs.Operations.{kind_of}
use Rattle.ot_model.specs.Effect.{IsEnabled}
use Rattle.fn_rules.specs.declared.function.Level.TheVariants.{Tp2}
use Rattle.fn_rules.specs.declared.function.ObName.TheVariants.{Triple}
use Rattle.fn_rules.specs.Functions.{Function, is_declared}
use Rattle.fn_rules.specs.Transformation.{IsAllowed}
use Rattle.fn_rules.specs.Properties.{CommutesAt, commutes_exchanged, HasTp1, HasTp2, HasTp1At, HasTp2At}
use Rattle.fn_rules.specs.Obligations.{declared_kinds, pairs_of, triples_of, obligations_of}
use Rattle.fn_rules.specs.Validity.{is_valid}
use Rattle.ask_core.specs.Plans.{end_of}
use Rattle.ot_questions.specs.declared.name.Who.TheVariants.{A, B, C}
use Rattle.ot_questions.specs.declared.place.SymOp.{SymOp}
use Rattle.ot_questions.specs.declared.why.Why.{Why}
use Rattle.ot_questions.specs.Names.{site_name, char_name}
use Rattle.ot_questions.specs.Places.{sym_op}
use Rattle.ot_questions.specs.Obligation.{ask_commute, ask_triple, plan_of}
use Rattle.ot_questions.specs.Meaning.{op_at, HasTriple, HoldsAtLength, ObligationHolds, AllHold, AllHoldAtLength}
use Rattle.ot_questions.specs.Instances.{StandsForOperation}
use Rattle.ot_questions.proofs.Tests.{plus-zero}
use Rattle.ot_questions.proofs.Operations.{IsCounted}
use Rattle.ot_questions.proofs.Standing.{counted_by_standing, op_at-standing, standing-op_at, standing-named}
use Rattle.ot_questions.proofs.Laws.{plan_kept}
use Rattle.ot_questions.proofs.Instances.{valued, kind_of-op_at-sym_op, raised, enough, counted_raised, end-raised}
use Rattle.ot_questions.proofs.Instances.{none_from_value, value_from_none}
use Rattle.ot_questions.proofs.Pairs.{all_enabled}
use Rattle.ot_questions.proofs.Triples.{TripleSays, commute_says, all_allowed, end-triple, triple_fails_breaks}
use Rattle.ot_questions.proofs.TellingDocument.{made, length-made}
use Rattle.ot_questions.proofs.Answered.{Answered, begins_answered, Decides-all_enabled, Decides-allowed, length_test}
use Rattle.ot_questions.proofs.Listed.{of_contained, each_appended, each_of_both, each_triple}
use Rattle.ot_questions.proofs.Lengths.{from_each_length, at_each_length}
use Rattle.ot_questions.proofs.PairMeaning.{ArePairsEnough, declared_kind, declared_from, all_declared, pairs_mean_at}
use Rattle.ot_questions.proofs.PairMeaning.{all_pairs_mean, tp1_holds_pairs_at, tp1_holds_all_pairs}

-- three operations that are enabled and pairwise allowed
pub record TriplePosed (f : Function) (n : ℕ) (a b c : Op) : Type 0 where
  pub a_enabled : IsEnabled a n
  pub b_enabled : IsEnabled b n
  pub c_enabled : IsEnabled c n
  pub a_and_b : IsAllowed f a b
  pub a_and_c : IsAllowed f a c
  pub b_and_c : IsAllowed f b c

-- what the plan of a triple says of the operations at the valuation
answered_at :
    (v : ℕ → ℤ) (f : Function) (x y w : SymOp) (n : ℕ) → v 0 ≡ pos 0 → v 1 ≡ pos n → IsCounted v x
    → IsCounted v y → IsCounted v w
    → Answered (TriplePosed f n (op_at v x) (op_at v y) (op_at v w)) (TripleSays f (op_at v x) (op_at v y) (op_at v w))
    (end_of (ask_triple f x y w) v)
answered_at v f x y w n z e cx cy cw =
    let enabled = Decides-all_enabled v n e (x ∷ y ∷ w ∷ []) in
    let last = Decides-and _ _ (Decides-allowed v f x w cx cw) (Decides-allowed v f y w cy cw) in
    let allowed = Decides-and _ _ (Decides-allowed v f x y cx cy) last in
    subst (λ end. Answered (TriplePosed f n (op_at v x) (op_at v y) (op_at v w))
    (TripleSays f (op_at v x) (op_at v y) (op_at v w)) end) (sym (end-triple v f x y w z))
    (begins_answered (TriplePosed f n (op_at v x) (op_at v y) (op_at v w))
    (TripleSays f (op_at v x) (op_at v y) (op_at v w)) (int_le (v 0 +ℤ pos 0) (v 1 +ℤ pos 0))
    (all_enabled v (x ∷ y ∷ w ∷ [])) (all_allowed v f x y w) (end_of (ask_commute f x y w) v) (length_test v n z e)
    (λ en al.
    let are_enabled = enabled.0 en in
    let are_allowed = allowed.0 al in (
      record {
        a_enabled = are_enabled.0;
        b_enabled = are_enabled.1.0;
        c_enabled = are_enabled.1.1.0;
        a_and_b = are_allowed.0;
        a_and_c = are_allowed.1.0;
        b_and_c = are_allowed.1.1;
      },
      commute_says v f x y w z cx cy cw,
    ))
    (λ posed. (
      enabled.1 (posed.a_enabled, (posed.b_enabled, (posed.c_enabled, tt))),
      allowed.1 (posed.a_and_b, (posed.a_and_c, posed.b_and_c)),
    )))

-- and so of any operations that the names stand for
pub triple_answered :
    (f : Function) (x y w : SymOp) (v : ℕ → ℤ) (n : ℕ) (a b c : Op) → v 0 ≡ pos 0 → v 1 ≡ pos n
    → StandsForOperation v x a → StandsForOperation v y b → StandsForOperation v w c
    → Answered (TriplePosed f n a b c) (TripleSays f a b c) (end_of (ask_triple f x y w) v)
triple_answered f x y w v n a b c z e sx sy sw =
    subst (λ o. Answered (TriplePosed f n o b c) (TripleSays f o b c) (end_of (ask_triple f x y w) v))
    (op_at-standing v x a z sx) (subst (λ o. Answered (TriplePosed f n (op_at v x) o c) (TripleSays f (op_at v x) o c)
    (end_of (ask_triple f x y w) v)) (op_at-standing v y b z sy)
    (subst (λ o. Answered (TriplePosed f n (op_at v x) (op_at v y) o) (TripleSays f (op_at v x) (op_at v y) o)
    (end_of (ask_triple f x y w) v)) (op_at-standing v w c z sw)
    (answered_at v f x y w n z e (counted_by_standing v x a sx) (counted_by_standing v y b sy)
    (counted_by_standing v w c sw))))

-- where the plan holds, the operations commute
pub triple_commutes :
    (f : Function) (n : ℕ) (a b c : Op) (end : Option Why)
    → Answered (TriplePosed f n a b c) (TripleSays f a b c) end → end ≡ None
    → TriplePosed f n a b c → CommutesAt f a b c
triple_commutes f n a b c end answered h posed =
    elim answered [
      | inl said ↦ subst (λ end. TripleSays f a b c end) h said.1
      | inr none ↦ absurd (none.0 posed)
    ]

-- where they commute if they are enabled and allowed, the plan holds
pub triple_none :
    (f : Function) (n : ℕ) (a b c : Op) (end : Option Why) → Answered (TriplePosed f n a b c) (TripleSays f a b c) end
    → (TriplePosed f n a b c → CommutesAt f a b c) → end ≡ None
triple_none f n a b c None answered h = refl
triple_none f n a b c (Some why) answered h =
    elim answered [
      | inl said ↦ absurd (triple_fails_breaks f a b c why said.1 (h said.0))
      | inr none ↦ none.1
    ]

pub triple_holds_means : (f : Function) (k l m : Kind) (n : ℕ) → HoldsAtLength f (Triple k l m) n → HasTriple f k l m n
unfolding plan_of
triple_holds_means f k l m n holds a b c ka kb kc ea eb ec ab ac bc =
    let v = valued n (pos 0) a b c in
    triple_commutes f n a b c (end_of (ask_triple f (sym_op k A) (sym_op l B) (sym_op m C)) v)
    (triple_answered f (sym_op k A) (sym_op l B) (sym_op m C) v n a b c refl refl
    (standing-named v k A a ka refl refl refl) (standing-named v l B b kb refl refl refl)
    (standing-named v m C c kc refl refl refl))
    (none_from_value (end_of (ask_triple f (sym_op k A) (sym_op l B) (sym_op m C)) v) (holds v refl refl))
    (record { a_enabled = ea; b_enabled = eb; c_enabled = ec; a_and_b = ab; a_and_c = ac; b_and_c = bc })

-- where TP2 holds at a length for operations of the kinds, the plan holds at that length
pub triple_meaning_holds :
    (f : Function) (k l m : Kind) (n : ℕ) → is_valid f ≡ true → HasTriple f k l m n → HoldsAtLength f (Triple k l m) n
unfolding plan_of
triple_meaning_holds f k l m n valid has v z e =
    let s = enough v site_name in
    let c = enough v char_name in
    let w = raised v s c in
    let zero : w 0 ≡ pos 0 = plus-zero (v 0) ∙ z in
    let first = op_at w (sym_op k A) in
    let second = op_at w (sym_op l B) in
    let third = op_at w (sym_op m C) in
    value_from_none (end_of (ask_triple f (sym_op k A) (sym_op l B) (sym_op m C)) v)
    (sym (end-raised 12 v s c (ask_triple f (sym_op k A) (sym_op l B) (sym_op m C))
    (plan_kept f (Triple k l m) valid).asked)
    ∙ triple_none f n first second third (end_of (ask_triple f (sym_op k A) (sym_op l B) (sym_op m C)) w)
    (triple_answered f (sym_op k A) (sym_op l B) (sym_op m C) w n first second third zero (plus-zero (v 1) ∙ e)
    (standing-op_at w (sym_op k A) zero (counted_raised v k A)) (standing-op_at w (sym_op l B) zero
    (counted_raised v l B)) (standing-op_at w (sym_op m C) zero (counted_raised v m C)))
    (λ posed.
    has first second third (kind_of-op_at-sym_op w k A) (kind_of-op_at-sym_op w l B) (kind_of-op_at-sym_op w m C)
    posed.a_enabled posed.b_enabled posed.c_enabled posed.a_and_b posed.a_and_c posed.b_and_c))

-- Why triples of kinds are enough, as TP2 does not depend on the order of its first two operations: of each
-- three declared kinds the triple is listed in one of the two orders of its first two kinds.
pub record AreTriplesEnough (f : Function) : Type 0 where
  pub pairs : ArePairsEnough f
  pub listed :
      (k l m : Kind) → is_declared f.head k ≡ true → is_declared f.head l ≡ true → is_declared f.head m ≡ true
      → Contains (triples_of (declared_kinds f.head)) (Triple k l m)
      ⊎ Contains (triples_of (declared_kinds f.head)) (Triple l k m)

-- where each triple of declared kinds holds at a length, the function has TP2 there
pub triples_mean_at :
    (f : Function) → AreTriplesEnough f → (n : ℕ) → AllHoldAtLength f (triples_of (declared_kinds f.head)) n
    → HasTp2At f n
triples_mean_at f enough n h d a b c len (da, ea, ok, rest) =
    let k = declared_kind f.head (kind_of a) da in
    let l = declared_kind f.head (kind_of b) rest.0 in
    let m = declared_kind f.head (kind_of c) rest.3.0 in
    let a_enabled : IsEnabled a n = subst (λ i. IsEnabled a i) len ea in
    let b_enabled : IsEnabled b n = subst (λ i. IsEnabled b i) len rest.1 in
    let c_enabled : IsEnabled c n = subst (λ i. IsEnabled c i) len rest.3.1 in
    elim (enough.listed k.0 l.0 m.0 k.2 l.2 m.2) [
      | inl listed ↦
          triple_holds_means f k.0 l.0 m.0 n (of_contained (λ ob. HoldsAtLength f ob n) _ (Triple k.0 l.0 m.0) h listed)
          a b c k.1 l.1 m.1 a_enabled b_enabled c_enabled ok.0 ok.1.0 rest.2.0
      | inr listed ↦
          commutes_exchanged f b a c
          (triple_holds_means f l.0 k.0 m.0 n
          (of_contained (λ ob. HoldsAtLength f ob n) _ (Triple l.0 k.0 m.0) h listed)
          b a c l.1 k.1 m.1 b_enabled a_enabled c_enabled (enough.pairs.allowed a b ok.0) rest.2.0 ok.1.0)
    ]

pub triples_mean : (f : Function) → AreTriplesEnough f → AllHold f (triples_of (declared_kinds f.head)) → HasTp2 f
triples_mean f enough h d a b c posed =
    triples_mean_at f enough (length d) (at_each_length f _ h (length d)) d a b c refl posed

pub all_plans_mean_at :
    (f : Function) → AreTriplesEnough f → (n : ℕ) → AllHoldAtLength f (obligations_of f.head Tp2) n
    → HasTp1At f n × HasTp2At f n
all_plans_mean_at f enough n h =
    let kinds = declared_kinds f.head in
    let both = each_of_both (λ ob. HoldsAtLength f ob n) (pairs_of kinds) (triples_of kinds) h in
    (pairs_mean_at f enough.pairs n both.0, triples_mean_at f enough n both.1)

pub all_plans_mean : (f : Function) → AreTriplesEnough f → AllHold f (obligations_of f.head Tp2) → HasTp1 f × HasTp2 f
all_plans_mean f enough h =
    let kinds = declared_kinds f.head in
    let both = each_of_both (ObligationHolds f) (pairs_of kinds) (triples_of kinds) h in
    (all_pairs_mean f enough.pairs both.0, triples_mean f enough both.1)

-- where a valid function has TP2 at a length, each triple of declared kinds holds there
triple_holds_at :
    (f : Function) (n : ℕ) → is_valid f ≡ true → HasTp2At f n → (k l m : Kind)
    → is_declared f.head k ≡ true → is_declared f.head l ≡ true → is_declared f.head m ≡ true
    → HoldsAtLength f (Triple k l m) n
triple_holds_at f n valid has k l m dk dl dm =
    triple_meaning_holds f k l m n valid
    (λ a b c ka kb kc ea eb ec ab ac bc.
    let d = made n (λ t. record { ch = 0; live = true }) in
    let len : length d ≡ n = length-made n (λ t. record { ch = 0; live = true }) in
    has d a b c len (
      declared_from f.head (kind_of a) k ka dk,
      subst (λ i. IsEnabled a i) (sym len) ea,
      (ab, (ac, tt)),
      (
        declared_from f.head (kind_of b) l kb dl,
        subst (λ i. IsEnabled b i) (sym len) eb,
        (bc, tt),
        (declared_from f.head (kind_of c) m kc dm, subst (λ i. IsEnabled c i) (sym len) ec, tt, tt),
      ),
    ))

pub tp2_holds_triples_at :
    (f : Function) (n : ℕ) → is_valid f ≡ true → HasTp2At f n → AllHoldAtLength f (triples_of (declared_kinds f.head)) n
tp2_holds_triples_at f n valid has =
    each_triple (λ k. is_declared f.head k ≡ true) (λ ob. HoldsAtLength f ob n) (triple_holds_at f n valid has)
    (declared_kinds f.head) (all_declared f.head)

pub tp2_holds_triples : (f : Function) → is_valid f ≡ true → HasTp2 f → AllHold f (triples_of (declared_kinds f.head))
tp2_holds_triples f valid has =
    from_each_length f _ (λ n. tp2_holds_triples_at f n valid (λ d a b c len posed. has d a b c posed))

pub tp2_holds_all_at :
    (f : Function) (n : ℕ) → is_valid f ≡ true → HasTp1At f n × HasTp2At f n
    → AllHoldAtLength f (obligations_of f.head Tp2) n
tp2_holds_all_at f n valid has =
    each_appended (λ ob. HoldsAtLength f ob n) (pairs_of (declared_kinds f.head)) (triples_of (declared_kinds f.head))
    (tp1_holds_pairs_at f n valid has.0) (tp2_holds_triples_at f n valid has.1)

pub tp2_holds_all : (f : Function) → is_valid f ≡ true → HasTp1 f × HasTp2 f → AllHold f (obligations_of f.head Tp2)
tp2_holds_all f valid has =
    each_appended (ObligationHolds f) (pairs_of (declared_kinds f.head)) (triples_of (declared_kinds f.head))
    (tp1_holds_all_pairs f valid has.0) (tp2_holds_triples f valid has.1)
