-- What a refusal says: the first wrong token, and its cause.
use Rattle.std.specs.Prelude.{◌≡◌, ◌↔◌, ℕ, List, ◌∷◌, ◌++◌, reverse, Result, Ok, Err}
use Rattle.fn_rules.specs.Functions.{Function}
use Rattle.fn_tokens.specs.declared.token.Placed.{Placed}
use Rattle.fn_tokens.specs.Tokens.{bare, tokens_in}
use Rattle.fn_tokens.specs.declared.fault.TextFault.{TextFault}
use Rattle.fn_text.specs.declared.stop.TextError.{TextError}
use Rattle.fn_text.specs.declared.stop.TextError.TheVariants as errors
use Rattle.fn_grammar.specs.Grammar.{IsTextOf}
use Rattle.fn_text.specs.Reading.{function_in}
use Rattle.fn_text.specs.Causes.{fault_behind}
use Rattle.fn_text.specs.GoingOn.{CanGoOn}

-- the first wrong token of a file, and the fault that its cause tells
pub record IsRefusedFor (tokens : List Placed) (fault : TextFault) : Type 0 where
  pub before : List Placed
  pub wrong : Placed
  pub behind : List Placed
  pub parts : tokens ≡ before ++ wrong ∷ behind
  -- the tokens before it can go on
  pub goes_on : CanGoOn (bare (reverse before))
  -- with it they can not
  pub stops : ¬ (CanGoOn (wrong.token ∷ bare (reverse before)))
  -- its cause is the first row of the table that fits
  pub told : fault ≡ fault_behind (reverse before) wrong

-- bytes that are refused are refused for their first wrong token
abbrev pub RefusalsAreFinal : Type 0
RefusalsAreFinal =
    (bytes : List ℕ) (fault : TextFault) → function_in bytes ≡ Err fault → IsRefusedFor (tokens_in bytes) fault

-- what a call answers of bytes, seen by a view: a function whose text they are, the fault of their first wrong token,
-- or want of memory, which says nothing of them
abbrev pub IsStoppedFor : List ℕ → TextError → Type 0
IsStoppedFor bytes (errors.Fault fault) = IsRefusedFor (tokens_in bytes) fault
IsStoppedFor bytes errors.NoMemory = Unit {0}

abbrev pub IsAnswerFor : {X : Type 0} → (X → Function) → List ℕ → Result X TextError → Type 0
IsAnswerFor view bytes (Ok x) = IsTextOf bytes (view x)
IsAnswerFor view bytes (Err error) = IsStoppedFor bytes error

-- what a file is: the text of a function, or refused for a fault
abbrev pub IsAnsweredBy : List ℕ → Result Function TextFault → Type 0
IsAnsweredBy bytes (Ok f) = IsTextOf bytes f
IsAnsweredBy bytes (Err fault) = IsRefusedFor (tokens_in bytes) fault

-- it is one of the two, for one function or one fault
pub record HasOneAnswer (bytes : List ℕ) : Type 0 where
  pub answer : Result Function TextFault
  pub is : IsAnsweredBy bytes answer
  pub only : (other : Result Function TextFault) → IsAnsweredBy bytes other → other ≡ answer

-- each file has one answer
abbrev pub FilesHaveOneAnswer : Type 0
FilesHaveOneAnswer = (bytes : List ℕ) → HasOneAnswer bytes

-- it is what is read
abbrev pub AnswersAreRead : Type 0
AnswersAreRead = (bytes : List ℕ) (answer : Result Function TextFault) →
    IsAnsweredBy bytes answer ↔ (function_in bytes ≡ answer)
