-- The reply to a session is told by its function and its text.
use Rattle.std.proofs.Common.{◌≡◌, ◌≢◌, ℕ, ◌+◌, ◌<◌, List, [], ◌∷◌, length, map, Option, Some, None, Result, Ok, Err}
use Rattle.std.proofs.Common.{refl, sym, ap, ◌∙◌, subst, inl, inr, arith}
use Rattle.ot_model.specs.declared.cell.Cell.{Cell}
use Rattle.ot_model.specs.declared.op.Op.{Op}
use Rattle.fn_rules.specs.Functions.{Function}
use Rattle.case_json.specs.declared.fault.CaseFault.{CaseFault}
use Rattle.case_json.specs.declared.script.Event.{Event}
use Rattle.case_json.specs.declared.script.Event.TheVariants.{Make, Take}
use Rattle.case_json.specs.declared.script.Script.{Script}
use Rattle.case_json.specs.Scripts.{script_in}
use Rattle.ot_causal.specs.Sessions.{MayMake}
use Rattle.ot_session.specs.declared.answer.Make.{Make as NotMade}
use Rattle.ot_session.specs.declared.answer.Make.TheVariants as makes
use Rattle.ot_session.specs.declared.answer.Take.{Take as NotTaken}
use Rattle.ot_session.specs.declared.answer.Take.TheVariants as takes
use Rattle.ot_session.specs.declared.answer.Took.{Took}
use Rattle.ot_session.specs.declared.ending.SiteEnd.{SiteEnd}
use Rattle.ot_session.specs.declared.limits.TheConstants.{MAX_MADE}
use Rattle.ot_session.specs.Sites.{site_end_of}
use Rattle.ot_session.specs.Views.{View, data_in, IsBegun, HasMade, HasTaken}
use Rattle.ot_replies.specs.declared.reply.Reply.{Reply}
use Rattle.ot_replies.specs.declared.reply.Reply.TheVariants.{Replayed}
use Rattle.ot_session.specs.declared.ending.SiteEnd.{SiteEnd}
use Rattle.ot_commands.specs.Replay.{CannotMake, IsDone, IsFirstOther, IsFirstPair, IsRefusedEvent, IsReplyToScript}
use Rattle.ot_commands.specs.Replay.{IsReplyToSession, Runs, TellsNotMade, TellsNotTaken, TellsSites}

-- the first that differs from one is one
first_other_one :
    (one : SiteEnd) (t : ℕ) (others : List SiteEnd) (a b : Option ℕ) → IsFirstOther one t others a
    → IsFirstOther one t others b → a ≡ b
first_other_one one t [] a b first second = first ∙ sym second
first_other_one one t (other ∷ others) a b (inl (differ, is)) (inl (_, same)) = is ∙ sym same
first_other_one one t (other ∷ others) a b (inl (differ, is)) (inr (agree, rest)) = absurd (agree differ)
first_other_one one t (other ∷ others) a b (inr (agree, rest)) (inl (differ, is)) = absurd (agree differ)
first_other_one one t (other ∷ others) a b (inr (agree, rest)) (inr (_, more)) =
    first_other_one one (t + 1) others a b rest more

-- so are the first two that differ
pub first_pair_one : (s : ℕ) (ends : List SiteEnd) (a b : Option (ℕ × ℕ)) → IsFirstPair s ends a
    → IsFirstPair s ends b → a ≡ b
first_pair_one s [] a b first second = first ∙ sym second
first_pair_one s (one ∷ others) a b (inl (t, other, is)) (inl (u, another, same)) =
    let both : Some t ≡ Some u = first_other_one one (s + 1) others (Some t) (Some u) other another in
    let number : t ≡ u = cc in
    is ∙ ap (λ (n : ℕ). Some (s, n)) number ∙ sym same
first_pair_one s (one ∷ others) a b (inl (t, other, is)) (inr (none, rest)) =
    let both : Some t ≡ None = first_other_one one (s + 1) others (Some t) None other none in
    cc
first_pair_one s (one ∷ others) a b (inr (none, rest)) (inl (t, other, is)) =
    let both : Some t ≡ None = first_other_one one (s + 1) others (Some t) None other none in
    cc
first_pair_one s (one ∷ others) a b (inr (none, rest)) (inr (_, more)) = first_pair_one (s + 1) others a b rest more

-- the reply to a session that was run to its end has the ends of its sites, and the first two that differ
replayed : (v : View) (r : Reply) → TellsSites v r
    → (ends : List SiteEnd) × (differ : Option (ℕ × ℕ)) × (r ≡ Replayed ends differ) × (ends ≡ map site_end_of v.sites)
    × IsFirstPair 1 ends differ
replayed v (Replayed ends differ) tells = (ends, differ, refl, tells.0, tells.1)
replayed v r tells = absurd tells

-- it is one
sites_told_once : (v : View) (r s : Reply) → TellsSites v r → TellsSites v s → r ≡ s
sites_told_once v r s first second =
    let one = replayed v r first in
    let other = replayed v s second in
    let ends : one.0 ≡ other.0 = one.3 ∙ sym other.3 in
    let differ : one.1 ≡ other.1 = first_pair_one 1 other.0 one.1 other.1
    (subst (λ (l : List SiteEnd). IsFirstPair 1 l one.1) ends one.4) other.4 in
    one.2 ∙ ap (λ (l : List SiteEnd). Replayed l one.1) ends
    ∙ ap (λ (p : Option (ℕ × ℕ)). Replayed other.0 p) differ ∙ sym other.2

-- what passes every test is not refused
never_refused : (v : View) (t : ℕ) (o : Op) (reason : NotMade) → MayMake v.function (data_in v) t o
    → length v.made < MAX_MADE
    → ¬ (CannotMake v t o reason)
never_refused v t o makes.NoSite may few cannot = cannot may.site
never_refused v t o makes.WrongSite may few cannot = cannot.1 may.own
never_refused v t o makes.WrongKind may few cannot = cannot.2 may.declared
never_refused v t o makes.NotEnabled may few cannot = cannot.3 may.enabled
never_refused v t o makes.Full may few cannot = absurd (omega (arith, few, cannot.1))
never_refused v t o makes.NoMemory may few cannot = cannot

-- the reason why a site makes no operation is one: that of the first test that fails
reason_one : (v : View) (t : ℕ) (o : Op) (a b : NotMade) → CannotMake v t o a → CannotMake v t o b → a ≡ b
reason_one v t o makes.NoMemory b first second = absurd first
reason_one v t o a makes.NoMemory first second = absurd second
reason_one v t o makes.NoSite makes.NoSite first second = refl
reason_one v t o makes.NoSite makes.WrongSite first second = absurd (first second.0)
reason_one v t o makes.NoSite makes.WrongKind first second = absurd (first second.0)
reason_one v t o makes.NoSite makes.NotEnabled first second = absurd (first second.0)
reason_one v t o makes.NoSite makes.Full first second = absurd (first second.0.site)
reason_one v t o makes.WrongSite makes.NoSite first second = absurd (second first.0)
reason_one v t o makes.WrongSite makes.WrongSite first second = refl
reason_one v t o makes.WrongSite makes.WrongKind first second = absurd (first.1 second.1)
reason_one v t o makes.WrongSite makes.NotEnabled first second = absurd (first.1 second.1)
reason_one v t o makes.WrongSite makes.Full first second = absurd (first.1 second.0.own)
reason_one v t o makes.WrongKind makes.NoSite first second = absurd (second first.0)
reason_one v t o makes.WrongKind makes.WrongSite first second = absurd (second.1 first.1)
reason_one v t o makes.WrongKind makes.WrongKind first second = refl
reason_one v t o makes.WrongKind makes.NotEnabled first second = absurd (first.2 second.2)
reason_one v t o makes.WrongKind makes.Full first second = absurd (first.2 second.0.declared)
reason_one v t o makes.NotEnabled makes.NoSite first second = absurd (second first.0)
reason_one v t o makes.NotEnabled makes.WrongSite first second = absurd (second.1 first.1)
reason_one v t o makes.NotEnabled makes.WrongKind first second = absurd (second.2 first.2)
reason_one v t o makes.NotEnabled makes.NotEnabled first second = refl
reason_one v t o makes.NotEnabled makes.Full first second = absurd (first.3 second.0.enabled)
reason_one v t o makes.Full makes.NoSite first second = absurd (second first.0.site)
reason_one v t o makes.Full makes.WrongSite first second = absurd (second.1 first.0.own)
reason_one v t o makes.Full makes.WrongKind first second = absurd (second.2 first.0.declared)
reason_one v t o makes.Full makes.NotEnabled first second = absurd (second.3 first.0.enabled)
reason_one v t o makes.Full makes.Full first second = refl

-- what tells of an operation that is not made is one
not_made_told_once : (i : ℕ) (reason : NotMade) (r s : Reply) → TellsNotMade i reason r
    → TellsNotMade i reason s → r ≡ s
not_made_told_once i makes.NoSite r s first second = first ∙ sym second
not_made_told_once i makes.WrongSite r s first second = first ∙ sym second
not_made_told_once i makes.WrongKind r s first second = first ∙ sym second
not_made_told_once i makes.NotEnabled r s first second = first ∙ sym second
not_made_told_once i makes.Full r s first second = first ∙ sym second
not_made_told_once i makes.NoMemory r s first second = absurd first

-- what tells of an operation that is not taken is one
not_taken_told_once : (i : ℕ) (reason : NotTaken) (r s : Reply) → TellsNotTaken i reason r
    → TellsNotTaken i reason s → r ≡ s
not_taken_told_once i takes.NoSite r s first second = first ∙ sym second
not_taken_told_once i takes.NoOp r s first second = first ∙ sym second
not_taken_told_once i (takes.Stuck o) r s first second = first ∙ sym second
not_taken_told_once i takes.Spent r s first second = first ∙ sym second
not_taken_told_once i takes.NoMemory r s first second = absurd first

-- no reply tells of want of memory
no_memory_untold : (i : ℕ) (reason : NotTaken) (r : Reply) → TellsNotTaken i reason r
    → ◌≢◌ {A = Result Took NotTaken} (Err reason) (Err takes.NoMemory)
no_memory_untold i reason r tells same =
    let memory : reason ≡ takes.NoMemory = cc in
    subst (λ (e : NotTaken). TellsNotTaken i e r) memory tells

-- what was taken is no refusal
pub taken_is_no_refusal : (took : Took) (reason : NotTaken) → ◌≢◌ {A = Result Took NotTaken} (Ok took) (Err reason)
taken_is_no_refusal took reason same = cc

-- Facts of sessions that come with their laws: what begins, what is made and what is taken is one.
module _ (begin_as_one :
    (f : Function) (d : List Cell) (sites : ℕ) (one other : View) → IsBegun f d sites one
    → IsBegun f d sites other → one ≡ other)
    (one_outcome :
    (old one other : View) (t n m : ℕ) (o : Op) → HasMade old one t o n → HasMade old other t o m
    → (n ≡ m) × (one ≡ other))
    (one_answer :
    (old one other : View) (t n : ℕ) (a b : Result Took NotTaken) → HasTaken old one t n a → HasTaken old other t n b
    → a ≢ Err takes.NoMemory → b ≢ Err takes.NoMemory → a ≡ b)
    (one_session :
    (old one other : View) (t n : ℕ) (took : Took) → HasTaken old one t n (Ok took)
    → HasTaken old other t n (Ok took) → one ≡ other) where
  -- an event that is done is not refused
  done_or_refused : (v : View) (i : ℕ) (event : Event) (r : Reply) (new : View)
      → IsRefusedEvent v i event r → ¬ (IsDone v event new)
  done_or_refused v i (Make site op) r new (reason, cannot, tells) (number, made, may, few) =
      never_refused v site op reason may few cannot
  done_or_refused v i (Take site number) r new (reason, left, refused, tells) (took, taken) =
      taken_is_no_refusal took reason (one_answer v new left site number (Ok took) (Err reason) taken refused
      (taken_is_no_refusal took takes.NoMemory) (no_memory_untold i reason r tells))

  -- a refused event gets one reply
  refused_once : (v : View) (i : ℕ) (event : Event) (r s : Reply) → IsRefusedEvent v i event r
      → IsRefusedEvent v i event s → r ≡ s
  refused_once v i (Make site op) r s (reason, cannot, tells) (why, because, says) =
      let same : why ≡ reason = reason_one v site op why reason because cannot in
      not_made_told_once i reason r s tells (subst (λ (e : NotMade). TellsNotMade i e s) same says)
  refused_once v i (Take site number) r s (reason, one, refused, tells) (why, other, because, says) =
      let both : Err why ≡ Err reason = one_answer v other one site number (Err why) (Err reason) because refused
      (no_memory_untold i why s says) (no_memory_untold i reason r tells) in
      let same : why ≡ reason = cc in
      not_taken_told_once i reason r s tells (subst (λ (e : NotTaken). TellsNotTaken i e s) same says)

  -- the session behind an event that is done is one
  done_once : (v : View) (event : Event) (one other : View) → IsDone v event one → IsDone v event other → one ≡ other
  done_once v (Make site op) one other (n, first, _, _) (m, second, _, _) =
      (one_outcome v one other site n m op first second).1
  done_once v (Take site number) one other (took, first) (too, second) =
      let both : Ok too ≡ Ok took = one_answer v other one site number (Ok too) (Ok took) second first
      (taken_is_no_refusal too takes.NoMemory) (taken_is_no_refusal took takes.NoMemory) in
      let same : too ≡ took = cc in
      one_session v one other site number took first
      (subst (λ (t : Took). HasTaken v other site number (Ok t)) same second)

  -- what events come to is one
  runs_once : (v : View) (i : ℕ) (events : List Event) (r s : Reply) → Runs v i events r → Runs v i events s → r ≡ s
  runs_once v i [] r s first second = sites_told_once v r s first second
  runs_once v i (event ∷ events) r s (inl refused) (inl again) = refused_once v i event r s refused again
  runs_once v i (event ∷ events) r s (inl refused) (inr (new, done, more)) =
      absurd (done_or_refused v i event r new refused done)
  runs_once v i (event ∷ events) r s (inr (new, done, more)) (inl refused) =
      absurd (done_or_refused v i event s new refused done)
  runs_once v i (event ∷ events) r s (inr (one, done, rest)) (inr (other, again, more)) =
      runs_once one (i + 1) events r s rest
      (subst (λ (w : View). Runs w (i + 1) events s) (done_once v event other one again done) more)

  -- the reply to what a session's file is read as is one
  script_replied_once : (f : Function) (read : Result Script CaseFault) (r s : Reply) → IsReplyToScript f read r
      → IsReplyToScript f read s → r ≡ s
  script_replied_once f (Err fault) r s first second = first ∙ sym second
  script_replied_once f (Ok script) r s (one, begun, rest) (other, again, more) =
      runs_once one 0 script.events r s rest
      (subst (λ (w : View). Runs w 0 script.events s)
      (begin_as_one f script.doc script.sites other one again begun) more)

  -- the reply to a session is one
  pub session_replied_once : (f : Function) (bytes : List ℕ) (r s : Reply) → IsReplyToSession f bytes r
      → IsReplyToSession f bytes s → r ≡ s
  unfolding IsReplyToSession
  session_replied_once f bytes r s first second = script_replied_once f (script_in bytes) r s first second
