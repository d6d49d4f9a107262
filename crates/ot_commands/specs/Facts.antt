-- What is said of a command: which files it opens, which reply it gets then, and where its status is never 1. The
-- facts of each command stand in the module that is named as its file of code.
use Rattle.std.specs.Prelude.{◌≡◌, ◌≢◌, ℕ, List, Option, Some, Ok}
use Rattle.fn_rules.specs.Functions.{Function}
use Rattle.fn_text.specs.Reading.{function_in}
use Rattle.ot_replies.specs.declared.reply.Reply.{Reply}
use Rattle.ot_replies.specs.Texts.{status_of}

-- the files that a command opens, in their order and by their names, and the reply that it gets then
pub data Opens : Type 1 where
  -- no file: this is the reply
  NoFile : (Reply → Type 0) → Opens
  -- a function's file: this is the reply that the function gets
  OneFunction : List ℕ → (Function → Reply → Type 0) → Opens
  -- a function's file: this is the reply that its bytes get, also where they are the text of no function
  FunctionText : List ℕ → (List ℕ → Reply → Type 0) → Opens
  -- a function's file and another one: this is the reply that the function gets, of what is told of the other file
  FunctionAnd : List ℕ → List ℕ → (Function → Option (List ℕ) → Reply → Type 0) → Opens
  -- two functions' files: this is the reply that both functions get
  TwoFunctions : List ℕ → List ℕ → (Function → Function → Reply → Type 0) → Opens

-- the facts of a command
pub record Facts : Type 1 where
  -- the files that it opens, and the reply that it gets
  pub opens : Opens
  -- what is said of its status besides, by what each name holds
  pub steady : (List ℕ → Option (List ℕ)) → Reply → Type 0

-- nothing is said of the status besides
abbrev pub NothingMore : (List ℕ → Option (List ℕ)) → Reply → Type 0
NothingMore holds r = Unit {0}

-- where the file of this name is read as such a function, the status is not 1
abbrev pub IsSteadyUnder : (Function → Type 0) → List ℕ → (List ℕ → Option (List ℕ)) → Reply → Type 0
IsSteadyUnder Agrees name holds r =
    (bytes : List ℕ) (f : Function) → holds name ≡ Some bytes → function_in bytes ≡ Ok f → Agrees f → status_of r ≢ 1
