-- The first wrong token of a file, as the reader finds it: where it stands, and what can go on in its place.
use Rattle.std.proofs.Common.{◌≡◌, ◌↔◌, is_some, IsTrue, List, [], ◌∷◌, ◌++◌, reverse, Option, Some}
use Rattle.std.proofs.Common.{None, Result, Ok, Err, refl, sym, ap, ◌∙◌, subst, append_assoc, append-nil}
use Rattle.std.proofs.lemmas.List.{reverse-append}
use Rattle.fn_rules.specs.Functions.{GuardedCase}
use Rattle.fn_rules.specs.Building.{PairCases}
use Rattle.fn_tokens.specs.declared.token.Token.{Token}
use Rattle.fn_tokens.specs.declared.token.Placed.{Placed}
use Rattle.fn_tokens.specs.Tokens.{bare, tokens_in}
use Rattle.fn_tokens.specs.declared.control.TokenMove.{TokenMove}
use Rattle.fn_tokens.specs.declared.fault.TextFault.{TextFault}
use Rattle.fn_tokens.specs.Meaning.{Formulas, to_formulas}
use Rattle.fn_tokens.specs.Moves.{move_for}
use Rattle.fn_text.specs.declared.wrong.WrongToken.{WrongToken}
use Rattle.fn_text.specs.GoingOn.{CanGoOn}
use Rattle.fn_text.specs.Reader.{State, after_move, first_state, moved}
use Rattle.fn_text.specs.Wrong.{wrong_from}
use Rattle.fn_text.proofs.Refusals.GoingOn.{Leads, goes_on, last_move, leads_on, taken}
use Rattle.fn_hints.specs.Standing.{can_stand, tokens_at, numbers_at, MayStand, IsToldOf, WrongTokensAreTold}
use Rattle.fn_hints.proofs.Listed.{stands_told}

abbrev pub Reading : Type 0
Reading = State Formulas GuardedCase PairCases

-- a token is taken exactly where the tokens before it can go on with it
some_goes : (before : List Placed) (s : Reading) (at : Placed) (move : Option TokenMove) → Leads before s →
    move_for s.control at s.control.want at.token ≡ move → IsTrue (is_some move) → CanGoOn (bare (at ∷ before))
some_goes before s at None leads goes some = absurd (cc)
some_goes before s at (Some move) leads goes some =
    goes_on (at ∷ before) (moved to_formulas s move) (leads_on before at s move leads goes)

goes_some : (before : List Placed) (s : Reading) (at : Placed) → Leads before s → CanGoOn (bare (at ∷ before)) →
    IsTrue (is_some (move_for s.control at s.control.want at.token))
goes_some before s at leads goes =
    let all = taken (at ∷ before) goes in
    let last = last_move before at all.now all.leads in
    let same : s ≡ last.now = let one = leads in let other = last.leads in cc in
    let some : move_for s.control at s.control.want at.token ≡ Some last.move =
    ap (λ x. move_for x.control at x.control.want at.token) same ∙ last.goes in
    ap is_some some

refused_stops : (move : Option TokenMove) → move ≡ None → IsTrue (is_some move) → ⊥
refused_stops None none some = absurd (cc)
refused_stops (Some move) none some = absurd (cc)

-- behind the tokens that lead to what is kept of them
stands_so : (before : List Placed) (s : Reading) (at : Placed) (token : Token) → Leads before s →
    IsTrue (can_stand (record { control = s.control; at = at }) token) ↔ CanGoOn (token ∷ bare before)
stands_so before s at token leads =
    let there = record at { token = token } in
    (λ stands. some_goes before s there _ leads refl stands, λ goes. goes_some before s there leads goes)

-- where tokens go on from one of them
abbrev pub going_to : Reading → Placed → List Placed → Result Reading TextFault → Option WrongToken
going_to s at rest (Ok after) = wrong_from to_formulas after rest
going_to s at rest (Err fault) = Some record { control = s.control; at = at }

pub going_by : (s : Reading) (at : Placed) (rest : List Placed) (move : Option TokenMove) →
    move_for s.control at s.control.want at.token ≡ move →
    wrong_from to_formulas s (at ∷ rest) ≡ going_to s at rest (after_move to_formulas s at move)
going_by s at rest move goes = ap (λ x. going_to s at rest (after_move to_formulas s at x)) goes

-- a wrong token behind tokens that go on, as it is found
record Found (before rest : List Placed) (wrong : WrongToken) : Type 0 where
  front : List Placed
  at : Placed
  behind : List Placed
  parts : rest ≡ front ++ at ∷ behind
  state : Reading
  leads : Leads (reverse front ++ before) state
  refused : move_for state.control at state.control.want at.token ≡ None
  is : record { control = state.control; at = at } ≡ wrong

-- what one has is equal where both are there
same_some : (one other : WrongToken) → Some one ≡ Some other → one ≡ other
same_some one other e = cc

found_later : (before : List Placed) (at : Placed) (rest : List Placed) (wrong : WrongToken) →
    Found (at ∷ before) rest wrong → Found before (at ∷ rest) wrong
found_later before at rest wrong later = record {
  front = at ∷ later.front;
  at = later.at;
  behind = later.behind;
  parts = ap (λ x. at ∷ x) later.parts;
  state = later.state;
  leads = subst (λ x. Leads x later.state)
      (sym (ap (λ x. x ++ before) (reverse-append (at ∷ []) later.front)
      ∙ append_assoc (reverse later.front) (at ∷ []) before))
      later.leads;
  refused = later.refused;
  is = later.is;
}

found_by : (before : List Placed) (s : Reading) (at : Placed) (rest : List Placed) (wrong : WrongToken)
    (move : Option TokenMove) → Leads before s → move_for s.control at s.control.want at.token ≡ move →
    going_to s at rest (after_move to_formulas s at move) ≡ Some wrong →
    ((one : TokenMove) → move ≡ Some one → wrong_from to_formulas (moved to_formulas s one) rest ≡ Some wrong →
    Found (at ∷ before) rest wrong) →
    Found before (at ∷ rest) wrong
found_by before s at rest wrong None leads goes e others = record {
  front = [];
  at = at;
  behind = rest;
  parts = refl;
  state = s;
  leads = leads;
  refused = goes;
  is = same_some _ wrong e;
}
found_by before s at rest wrong (Some one) leads goes e others = found_later before at rest wrong (others one refl e)

found : (before : List Placed) (s : Reading) (rest : List Placed) (wrong : WrongToken) → Leads before s →
    wrong_from to_formulas s rest ≡ Some wrong → Found before rest wrong
found before s [] wrong leads e = absurd (cc)
found before s (at ∷ rest) wrong leads e =
    found_by before s at rest wrong (move_for s.control at s.control.want at.token) leads refl e
    (λ one goes more. found (at ∷ before) (moved to_formulas s one) rest wrong
    (leads_on before at s one leads goes) more)

-- what is so of both sides of one, and of another one
both_ways : {A B C : Type 0} → (A ↔ B) → (B ↔ C) → (A ↔ C)
both_ways one other = (λ a. other.0 (one.0 a), λ c. one.1 (other.1 c))

others_told : (front : List Placed) (s : Reading) (at : Placed) → Leads (reverse front) s → (token : Token) →
    MayStand (tokens_at (record { control = s.control; at = at })) (numbers_at s.control.want) token
    ↔ CanGoOn (token ∷ bare (reverse front))
others_told front s at leads token =
    both_ways (stands_told (record { control = s.control; at = at }) token) (stands_so (reverse front) s at token leads)

stops_there : (front : List Placed) (s : Reading) (at : Placed) → Leads (reverse front) s →
    move_for s.control at s.control.want at.token ≡ None → ¬ (CanGoOn (at.token ∷ bare (reverse front)))
stops_there front s at leads none goes =
    refused_stops (move_for s.control at s.control.want at.token) none (goes_some (reverse front) s at leads goes)

told_here : (tokens front behind : List Placed) (s : Reading) (at : Placed) → tokens ≡ front ++ at ∷ behind →
    Leads (reverse front) s → move_for s.control at s.control.want at.token ≡ None →
    IsToldOf tokens (record { control = s.control; at = at })
told_here tokens front behind s at parts leads none = record {
  before = front;
  behind = behind;
  parts = parts;
  goes_on = goes_on (reverse front) s leads;
  stops = stops_there front s at leads none;
  others = others_told front s at leads;
}

told_of : (tokens : List Placed) (wrong : WrongToken) → Found [] tokens wrong → IsToldOf tokens wrong
told_of tokens wrong h =
    let leads = subst (λ x. Leads x h.state) (append-nil (reverse h.front)) h.leads in
    subst (λ x. IsToldOf tokens x) h.is
    (told_here tokens h.front h.behind h.state h.at h.parts leads h.refused)

-- the first wrong token of a file is told so
pub wrong_tokens_are_told : WrongTokensAreTold
wrong_tokens_are_told bytes wrong e =
    told_of (tokens_in bytes) wrong (found [] (first_state to_formulas) (tokens_in bytes) wrong refl e)
