-- Behind the first wrong token no file of the grammar goes on.
use Rattle.std.proofs.Common.{◌≡◌, List, [], ◌∷◌, ◌++◌, map, Option, Some, None, Result, Ok, Err, refl, sym, ap, ◌∙◌}
use Rattle.fn_rules.specs.declared.guard.Tightness.{Tightness}
use Rattle.fn_rules.specs.declared.function.Head.{Head}
use Rattle.fn_rules.specs.Building.{PairCases}
use Rattle.fn_tokens.specs.declared.token.Token.{Token}
use Rattle.fn_tokens.specs.declared.token.Token.TheVariants.{FileEnd}
use Rattle.fn_tokens.specs.declared.token.Placed.{Placed}
use Rattle.fn_tokens.specs.declared.control.Want.{Want}
use Rattle.fn_tokens.specs.declared.control.Want.TheVariants as wants
use Rattle.fn_tokens.specs.declared.control.Control.{Control}
use Rattle.fn_tokens.specs.declared.control.TokenMove.{TokenMove}
use Rattle.fn_tokens.specs.declared.control.TokenMove.TheVariants as moves
use Rattle.fn_tokens.specs.declared.fault.TextFault.{TextFault}
use Rattle.fn_tokens.specs.Moves.{move_for}
use Rattle.fn_tokens.specs.Faults.{fault_of}
use Rattle.fn_tokens.specs.Meaning.{Maker}
use Rattle.fn_text.specs.Reader.{State, moved, after_move, turn, read_from}
use Rattle.fn_text.specs.Reading.{built_from}
use Rattle.fn_text.specs.Theorems.{state_behind}
use Rattle.fn_tokens.specs.Tokens.{bare}
use Rattle.fn_text.proofs.WrittenIsRead.Guards.{going}

-- the end of the file goes on in one way
file_end_goes : (c : Control) (at : Placed) (want : Want) (move : TokenMove) → move_for c at want FileEnd ≡ Some move →
    move ≡ moves.Skip wants.Nothing
file_end_goes c at wants.Otfn move e = absurd (cc)
file_end_goes c at wants.Version move e = absurd (cc)
file_end_goes c at wants.Text move e = absurd (cc)
file_end_goes c at wants.Mode move e = absurd (cc)
file_end_goes c at wants.Kinds move e = absurd (cc)
file_end_goes c at wants.NextKind move e = absurd (cc)
file_end_goes c at (wants.LineEnd following) move e = absurd (cc)
file_end_goes c at wants.Line move e = absurd (cc)
file_end_goes c at wants.Assumed move e = absurd (cc)
file_end_goes c at wants.Differ move e = absurd (cc)
file_end_goes c at wants.BlockFirst move e = absurd (cc)
file_end_goes c at (wants.BlockSecond k) move e = absurd (cc)
file_end_goes c at wants.BlockEnd move e = absurd (cc)
file_end_goes c at wants.Operand move e = absurd (cc)
file_end_goes c at (wants.Comparison sort left) move e = absurd (cc)
file_end_goes c at (wants.Right sort left cmp) move e = absurd (cc)
file_end_goes c at (wants.Offset left cmp) move e = absurd (cc)
file_end_goes c at (wants.Number left cmp sign) move e = absurd (cc)
file_end_goes c at wants.Operator move e = absurd (cc)
file_end_goes c at wants.Result move e = absurd (cc)
file_end_goes c at wants.ResultPosition move e = absurd (cc)
file_end_goes c at (wants.ResultOffset side) move e = absurd (cc)
file_end_goes c at (wants.ResultNumber side sign) move e = absurd (cc)
file_end_goes c at (wants.ResultEnd result) move e = absurd (cc)
file_end_goes c at wants.FileEnd move e = cc
file_end_goes c at wants.Nothing move e = absurd (cc)

-- the state behind tokens and one more that could go on
abbrev pub going_on : {V : Tightness → Type 0} {K B : Type 0} → Maker V K B → List Placed
    → Result (State V K B) TextFault → Result (State V K B) TextFault
going_on m rest (Ok after) = state_behind m after rest
going_on m rest (Err fault) = Err fault

-- where tokens from a state on are refused
pub record Stops {V : Tightness →
    Type 0} {K B : Type 0} (m : Maker V K B) (s : State V K B) (tokens : List Placed) (fault : TextFault) : Type 0 where
  pub before : List Placed
  pub wrong : Placed
  pub behind : List Placed
  pub parts : tokens ≡ before ++ wrong ∷ behind
  pub state : State V K B
  pub reads : state_behind m s before ≡ Ok state
  pub refused : move_for state.control wrong state.control.want wrong.token ≡ None
  pub told : fault ≡ fault_of state.control wrong

-- the first token is the wrong one
stops_here : {V : Tightness →
    Type 0} {K B : Type 0} (m : Maker V K B) (s : State V K B) (at : Placed) (rest : List Placed) (fault : TextFault) →
    move_for s.control at s.control.want at.token ≡ None → read_from m s (at ∷ rest) ≡ Err fault
    → Stops m s (at ∷ rest) fault
stops_here m s at rest fault none e =
    let here : read_from m s (at ∷ rest) ≡ Err (fault_of s.control at) =
    ap (λ x. going m rest (after_move m s at x)) none in
    record {
      before = [];
      wrong = at;
      behind = rest;
      parts = refl;
      state = s;
      reads = refl;
      refused = none;
      told = cc;
    }

-- the wrong token comes after one that is taken
stops_later : {V : Tightness →
    Type 0} {K B : Type 0} (m : Maker V K B) (s : State V K B) (at : Placed) (rest : List Placed) (fault : TextFault)
    (move : TokenMove) → move_for s.control at s.control.want at.token ≡ Some move → Stops m (moved m s move) rest fault
    → Stops m s (at ∷ rest) fault
stops_later m s at rest fault move some later = record {
  before = at ∷ later.before;
  wrong = later.wrong;
  behind = later.behind;
  parts = ap (λ x. at ∷ x) later.parts;
  state = later.state;
  reads = ap (λ x. going_on m later.before (after_move m s at x)) some ∙ later.reads;
  refused = later.refused;
  told = later.told;
}

not_both : {X Y : Type 0} (read : Result X Y) (x : X) (y : Y) → read ≡ Ok x → read ≡ Err y → ⊥
not_both (Ok z) x y e f = absurd (cc)
not_both (Err z) x y e f = absurd (cc)

-- tokens whose last one is the file's end are refused at one of them
stops_by : {V : Tightness →
    Type 0} {K B : Type 0} (m : Maker V K B) (s : State V K B) (at : Placed) (rest : List Placed) (fault : TextFault)
    (move : Option TokenMove) → move_for s.control at s.control.want at.token ≡ move →
    ((one : TokenMove) → move ≡ Some one → Stops m (moved m s one) rest fault) → read_from m s (at ∷ rest) ≡ Err fault →
    Stops m s (at ∷ rest) fault
stops_by m s at rest fault None goes others e = stops_here m s at rest fault goes e
stops_by m s at rest fault (Some one) goes others e =
    stops_later m s at rest fault one goes (others one refl)

still_refused : {V : Tightness →
    Type 0} {K B : Type 0} (m : Maker V K B) (s : State V K B) (at : Placed) (rest : List Placed) (fault : TextFault)
    (one : TokenMove) → move_for s.control at s.control.want at.token ≡ Some one → read_from m s (at ∷ rest) ≡ Err fault
    → read_from m (moved m s one) rest ≡ Err fault
still_refused m s at rest fault one goes e = sym (ap (λ x. going m rest (after_move m s at x)) goes) ∙ e

ends_well : {V : Tightness → Type 0} {K B : Type 0} (m : Maker V K B) (s : State V K B) (one : TokenMove) →
    one ≡ moves.Skip wants.Nothing → read_from m (moved m s one) [] ≡ Ok (s.control.head, s.done)
ends_well m s one e = ap (λ x. read_from m (moved m s x) []) e

-- a list of tokens that ends with the file's end, and is refused, has a first wrong token
pub stops : {V : Tightness →
    Type 0} {K B : Type 0} (m : Maker V K B) (s : State V K B) (front : List Placed) (last : Placed) (fault : TextFault)
    → last.token ≡ FileEnd → read_from m s (front ++ last ∷ []) ≡ Err fault → Stops m s (front ++ last ∷ []) fault
stops m s [] last fault end e =
    stops_by m s last [] fault _ refl
    (λ one goes. let last_move =
    file_end_goes s.control last s.control.want one
    (ap (λ t. move_for s.control last s.control.want t) (sym end) ∙ goes) in
    absurd (not_both _ _ _ (ends_well m s one last_move) (still_refused m s last [] fault one goes e)))
    e
stops m s (at ∷ front) last fault end e =
    stops_by m s at (front ++ last ∷ []) fault _ refl
    (λ one goes. stops m (moved m s one) front last fault end
    (still_refused m s at (front ++ last ∷ []) fault one goes e)) e

behind_by : {V : Tightness →
    Type 0} {K B : Type 0} (m : Maker V K B) (s : State V K B) (at : Placed) (front rest : List Placed) (state : State V
    K B) (next : Result (State V K B) TextFault) → turn m s at ≡ next → going_on m front next ≡ Ok state →
    ((after : State V K B) → state_behind m after front ≡ Ok state → read_from m after (front ++ rest)
    ≡ read_from m state rest) → read_from m s (at ∷ (front ++ rest)) ≡ read_from m state rest
behind_by m s at front rest state (Ok after) told e others =
    ap (λ x. going m (front ++ rest) x) told ∙ others after e
behind_by m s at front rest state (Err fault) told e others = absurd (cc)

-- reading goes on behind tokens that can go on
pub reads_behind : {V : Tightness →
    Type 0} {K B : Type 0} (m : Maker V K B) (s : State V K B) (front rest : List Placed) (state : State V K B) →
    state_behind m s front ≡ Ok state → read_from m s (front ++ rest) ≡ read_from m state rest
reads_behind m s [] rest state e = let same : s ≡ state = cc in ap (λ x. read_from m x rest) same
reads_behind m s (at ∷ front) rest state e =
    behind_by m s at front rest state (turn m s at) refl e (λ after told. reads_behind m after front rest state told)

-- tokens at any place
pub placed : List Token → List Placed
placed tokens = map (λ t. record { token = t; line = 1; column = 1 }) tokens

pub bare-placed : (tokens : List Token) → bare (placed tokens) ≡ tokens
unfolding placed
bare-placed [] = refl
bare-placed (t ∷ tokens) = ap (λ x. t ∷ x) (bare-placed tokens)

pub bare-append : (ps qs : List Placed) → bare (ps ++ qs) ≡ bare ps ++ bare qs
bare-append [] qs = refl
bare-append (p ∷ ps) qs = ap (λ x. p.token ∷ x) (bare-append ps qs)

pub only_by_reading : {read : Result (Head × List PairCases) TextFault} (fault : TextFault)
    → built_from read ≡ Err fault → read ≡ Err fault
only_by_reading {read = Ok parts} fault e = absurd (cc)
only_by_reading {read = Err other} fault e = cc
