-- A session as plain data, and what always holds of it.
use Rattle.std.specs.Prelude.{◌≡◌, ◌≢◌, ℕ, zero, suc, ◌+◌, ◌<◌, ◌≤◌, ◌⊎◌, true, List, [], ◌∷◌, length, Some}
use Rattle.ot_model.specs.declared.cell.Cell.{Cell}
use Rattle.ot_model.specs.declared.op.Op.{Op}
use Rattle.ot_model.specs.Operations.{kind_of, site_of}
use Rattle.ot_model.specs.Effect.{IsEnabled, document_after}
use Rattle.fn_rules.specs.Functions.{Function, HasDeclaredKind}
use Rattle.ot_causal.specs.Members.{has}
use Rattle.ot_causal.specs.Past.{Past, maker, IsNext, IsClosed, Extends}
use Rattle.ot_causal.specs.Forms.{form, executed, state}
use Rattle.ot_causal.specs.Counting.{counted}

-- the operation was made at its site on a closed list whose members are those that are before it, of a
-- kind that the function is for, and enabled on the document of that list
pub record IsBorn (f : Function) (past : Past) (first : List Cell) (o : ℕ) : Type 0 where
  pub known : List ℕ
  pub closed : IsClosed past known
  pub befores : (x : ℕ) → has known x ≡ past.before x o
  pub document : List Cell
  pub is : state f past first known ≡ Some document
  pub enabled : IsEnabled (past.operation o) (length document)
  pub declared : HasDeclaredKind f.head (kind_of (past.operation o))

-- what always holds of the operations made: each was born so, and of two of one site the one is before the
-- other
pub record IsSoundPast (f : Function) (past : Past) (first : List Cell) : Type 0 where
  pub born : (o : ℕ) → o < past.count → IsBorn f past first o
  pub ordered : (x y : ℕ) → x < past.count → y < past.count → maker past x ≡ maker past y → x ≢ y
      → (past.before x y ≡ true) ⊎ (past.before y x ≡ true)

-- a session: the operations made, the first document, and of each of its sites, numbered from 1, what it
-- has integrated, the newest first, and its document
pub record SessionData : Type 0 where
  pub past : Past
  pub first : List Cell
  pub sites : ℕ
  pub seen : ℕ → List ℕ
  pub document : ℕ → List Cell

-- the number is that of a site
pub record IsSite (sites s : ℕ) : Type 0 where
  pub low : 1 ≤ s
  pub high : s ≤ sites

-- what always holds of a session: its past is sound; each site has integrated a closed list and holds the
-- document that it leads to; each operation was made at a site, which has integrated it
pub record IsSound (f : Function) (session : SessionData) : Type 0 where
  pub past : IsSoundPast f session.past session.first
  pub closed : (s : ℕ) → IsSite session.sites s → IsClosed session.past (session.seen s)
  pub documents : (s : ℕ) → IsSite session.sites s → state f session.past session.first (session.seen s)
      ≡ Some (session.document s)
  pub sites : (o : ℕ) → o < session.past.count → IsSite session.sites (maker session.past o)
  pub own : (o : ℕ) → o < session.past.count → has (session.seen (maker session.past o)) o ≡ true

-- a new session on a document: nothing was made, and each site holds the document
pub record IsNew (d : List Cell) (session : SessionData) : Type 0 where
  pub nothing : session.past.count ≡ 0
  pub first : session.first ≡ d
  pub seen : (s : ℕ) → IsSite session.sites s → session.seen s ≡ []
  pub documents : (s : ℕ) → IsSite session.sites s → session.document s ≡ d

-- what both steps keep: the first document, and of each other site what it has integrated, with its document
pub record KeepsOthers (old new : SessionData) (s : ℕ) : Type 0 where
  pub first : new.first ≡ old.first
  pub sites : new.sites ≡ old.sites
  pub seen : (u : ℕ) → IsSite old.sites u → u ≢ s → new.seen u ≡ old.seen u
  pub documents : (u : ℕ) → IsSite old.sites u → u ≢ s → new.document u ≡ old.document u

-- an operation was made at a site: it has the next number, and before it is what the site had integrated
pub record Makes (f : Function) (old new : SessionData) (s : ℕ) (a : Op) : Type 0 where
  pub keeps : KeepsOthers old new s
  pub extends : Extends old.past new.past
  pub count : new.past.count ≡ old.past.count + 1
  pub operation : new.past.operation old.past.count ≡ a
  pub befores : (x : ℕ) → new.past.before x old.past.count ≡ has (old.seen s) x
  pub seen : new.seen s ≡ old.past.count ∷ old.seen s
  pub document : new.document s ≡ document_after f.head.mode a (old.document s)

-- what is asked of an operation that is made: it is the site's own, of a kind that the function is for, and
-- enabled on the site's document
pub record MayMake (f : Function) (session : SessionData) (s : ℕ) (a : Op) : Type 0 where
  pub site : IsSite session.sites s
  pub own : site_of a ≡ Some s
  pub declared : HasDeclaredKind f.head (kind_of a)
  pub enabled : IsEnabled a (length (session.document s))

-- an operation was integrated at a site: it was next there, and its form was executed
pub record Integrates (f : Function) (old new : SessionData) (s o : ℕ) : Type 0 where
  pub keeps : KeepsOthers old new s
  pub extends : Extends old.past new.past
  pub count : new.past.count ≡ old.past.count
  pub site : IsSite old.sites s
  pub next : IsNext old.past (old.seen s) o
  pub seen : new.seen s ≡ o ∷ old.seen s
  pub document : executed f (form f old.past o (old.seen s)) (old.document s) ≡ Some (new.document s)

-- the forms that the sites from 1 to this one have counted
abbrev pub counted_to : SessionData → ℕ → ℕ
counted_to session zero = 0
counted_to session (suc s) = counted_to session s + length (counted session.past (session.seen (suc s)))

-- the forms that were counted in a session
abbrev pub all_counted : SessionData → ℕ
all_counted session = counted_to session session.sites
