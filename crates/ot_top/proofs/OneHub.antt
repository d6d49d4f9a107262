-- The reply to a hub is told by its function and its text.
use Rattle.std.proofs.Common.{◌≡◌, ◌≢◌, ℕ, ◌+◌, List, [], ◌∷◌, Option, Result, Ok, Err, refl, sym, ap, ◌∙◌, subst, inl}
use Rattle.std.proofs.Common.{inr}
use Rattle.ot_model.specs.declared.cell.Cell.{Cell}
use Rattle.ot_model.specs.declared.op.Op.{Op}
use Rattle.fn_rules.specs.Functions.{Function}
use Rattle.case_json.specs.declared.fault.CaseFault.{CaseFault}
use Rattle.case_json.specs.declared.hub.HubEvent.{HubEvent}
use Rattle.case_json.specs.declared.hub.HubEvent.TheVariants as events
use Rattle.case_json.specs.declared.hub.HubScript.{HubScript}
use Rattle.case_json.specs.Hubs.{hub_script_in}
use Rattle.ot_hub.specs.declared.answer.Edit.{Edit}
use Rattle.ot_hub.specs.declared.answer.Edit.TheVariants as edits
use Rattle.ot_hub.specs.declared.answer.Move.{Move}
use Rattle.ot_hub.specs.declared.answer.Move.TheVariants as moves
use Rattle.ot_hub.specs.declared.answer.Moved.{Moved}
use Rattle.ot_hub.specs.declared.answer.Moved.TheVariants as moved
use Rattle.ot_hub.specs.Steps.{Step, To}
use Rattle.ot_hub.specs.Views.{HubData, begun_hub, HasEdited, HasMoved, up_step, down_step}
use Rattle.ot_replies.specs.declared.reply.ClientEnd.{ClientEnd}
use Rattle.ot_replies.specs.declared.reply.HubEnd.{HubEnd}
use Rattle.ot_replies.specs.declared.reply.Reply.{Reply}
use Rattle.ot_replies.specs.declared.reply.Reply.TheVariants.{Served}
use Rattle.ot_commands.specs.Hub.{IsDone, IsEndOf, IsFirstApart, IsRefusedHubEvent, IsReplyToHub, IsReplyToHubScript}
use Rattle.ot_commands.specs.Hub.{TellsHub, TellsNotEdited, TellsNotMoved}
use Rattle.ot_commands.proofs.RunsBy.{runs_once}

-- the first that is apart is one
first_apart_one : (n : ℕ) (d : List Cell) (c : ℕ) (ends : List ClientEnd) (a b : Option ℕ) → IsFirstApart n d c ends a
    → IsFirstApart n d c ends b → a ≡ b
first_apart_one n d c [] a b first second = first ∙ sym second
first_apart_one n d c (end ∷ ends) a b (inl (apart, is)) (inl (_, same)) = is ∙ sym same
first_apart_one n d c (end ∷ ends) a b (inl (apart, is)) (inr (near, rest)) = absurd (near apart)
first_apart_one n d c (end ∷ ends) a b (inr (near, rest)) (inl (apart, is)) = absurd (near apart)
first_apart_one n d c (end ∷ ends) a b (inr (near, rest)) (inr (_, more)) =
    first_apart_one n d (c + 1) ends a b rest more

same_end : (e q : HubEnd) → e.logged ≡ q.logged → e.doc ≡ q.doc → e.clients ≡ q.clients → e.differ ≡ q.differ → e ≡ q
same_end e q logged doc clients differ =
    ap (λ (n : ℕ). record { logged = n; doc = e.doc; clients = e.clients; differ = e.differ }) logged
    ∙ ap (λ (d : List Cell). record { logged = q.logged; doc = d; clients = e.clients; differ = e.differ }) doc
    ∙ ap (λ (l : List ClientEnd). record { logged = q.logged; doc = q.doc; clients = l; differ = e.differ }) clients
    ∙ ap (λ (o : Option ℕ). record { logged = q.logged; doc = q.doc; clients = q.clients; differ = o }) differ

-- what a hub holds is one
one_end : (hub : HubData) (e q : HubEnd) → IsEndOf hub e → IsEndOf hub q → e ≡ q
one_end hub e q first second =
    let logged : e.logged ≡ q.logged = first.logged ∙ sym second.logged in
    let doc : e.doc ≡ q.doc = first.doc ∙ sym second.doc in
    let clients : e.clients ≡ q.clients = first.clients ∙ sym second.clients in
    same_end e q logged doc clients
    (first_apart_one q.logged q.doc 1 q.clients e.differ q.differ
    (subst (λ (n : ℕ). IsFirstApart n q.doc 1 q.clients e.differ) logged
    (subst (λ (d : List Cell). IsFirstApart e.logged d 1 q.clients e.differ) doc
    (subst (λ (l : List ClientEnd). IsFirstApart e.logged e.doc 1 l e.differ) clients first.differ))) second.differ)

served : (hub : HubData) (r : Reply) → TellsHub hub r → (end : HubEnd) × (r ≡ Served end) × IsEndOf hub end
served hub (Served end) tells = (end, refl, tells)
served hub r tells = absurd tells

hub_told_once : (hub : HubData) (r q : Reply) → TellsHub hub r → TellsHub hub q → r ≡ q
hub_told_once hub r q first second =
    let one = served hub r first in
    let other = served hub q second in
    one.1 ∙ ap (λ (e : HubEnd). Served e) (one_end hub one.0 other.0 one.2 other.2) ∙ sym other.1

not_edited_told_once : (i : ℕ) (reason : Edit) (r q : Reply) → TellsNotEdited i reason r
    → TellsNotEdited i reason q → r ≡ q
not_edited_told_once i edits.NoMemory r q first second = absurd first
not_edited_told_once i reason r q first second = first ∙ sym second

not_moved_told_once : (i : ℕ) (reason : Move) (r q : Reply) → TellsNotMoved i reason r
    → TellsNotMoved i reason q → r ≡ q
not_moved_told_once i moves.NoMemory r q first second = absurd first
not_moved_told_once i reason r q first second = first ∙ sym second

-- no reply tells of it
edit_memory_untold : (i : ℕ) (reason : Edit) (r : Reply) → TellsNotEdited i reason r
    → ◌≢◌ {A = Result (Unit {0}) Edit} (Err reason) (Err edits.NoMemory)
edit_memory_untold i reason r tells same =
    let memory : reason ≡ edits.NoMemory = cc in
    subst (λ (e : Edit). TellsNotEdited i e r) memory tells

move_memory_untold : (i : ℕ) (reason : Move) (r : Reply) → TellsNotMoved i reason r
    → ◌≢◌ {A = Result Moved Move} (Err reason) (Err moves.NoMemory)
move_memory_untold i reason r tells same =
    let memory : reason ≡ moves.NoMemory = cc in
    subst (λ (e : Move). TellsNotMoved i e r) memory tells

made_is_no_refusal : (reason : Edit) → ◌≢◌ {A = Result (Unit {0}) Edit} (Ok tt) (Err reason)
made_is_no_refusal reason same = cc

moved_is_no_refusal : (m : Moved) (reason : Move) → ◌≢◌ {A = Result Moved Move} (Ok m) (Err reason)
moved_is_no_refusal m reason same = cc

led : {X : Type 0} → (x y : X) → ◌≡◌ {A = Step X} (To x) (To y) → x ≡ y
led x y same = cc

-- a move is answered in one way, but for want of memory
one_move :
    (hub one other : HubData) (c : ℕ) (step : Step HubData) (a b : Result Moved Move) → HasMoved hub one c step a
    → HasMoved hub other c step b
    → a ≢ Err moves.NoMemory → b ≢ Err moves.NoMemory → a ≡ b
one_move hub one other c step (Err moves.NoMemory) b first second known also = absurd (known refl)
one_move hub one other c step a (Err moves.NoMemory) first second known also = absurd (also refl)
one_move hub one other c step (Ok moved.Done) (Ok moved.Done) first second known also = refl
one_move hub one other c step (Ok moved.Nothing) (Ok moved.Nothing) first second known also = refl
one_move hub one other c step (Err moves.NoSite) (Err moves.NoSite) first second known also = refl
one_move hub one other c step (Err moves.Stuck) (Err moves.Stuck) first second known also = refl
one_move hub one other c step (Ok moved.Done) (Ok moved.Nothing) first second known also =
    absurd (let x = first.1 in let y = second.1 in cc)
one_move hub one other c step (Ok moved.Done) (Err moves.NoSite) first second known also = absurd (second.0 first.0)
one_move hub one other c step (Ok moved.Done) (Err moves.Stuck) first second known also =
    absurd (let x = first.1 in let y = second.1 in cc)
one_move hub one other c step (Ok moved.Nothing) (Ok moved.Done) first second known also =
    absurd (let x = first.1 in let y = second.1 in cc)
one_move hub one other c step (Ok moved.Nothing) (Err moves.NoSite) first second known also = absurd (second.0 first.0)
one_move hub one other c step (Ok moved.Nothing) (Err moves.Stuck) first second known also =
    absurd (let x = first.1 in let y = second.1 in cc)
one_move hub one other c step (Err moves.NoSite) (Ok moved.Done) first second known also = absurd (first.0 second.0)
one_move hub one other c step (Err moves.NoSite) (Ok moved.Nothing) first second known also = absurd (first.0 second.0)
one_move hub one other c step (Err moves.NoSite) (Err moves.Stuck) first second known also = absurd (first.0 second.0)
one_move hub one other c step (Err moves.Stuck) (Ok moved.Done) first second known also =
    absurd (let x = first.1 in let y = second.1 in cc)
one_move hub one other c step (Err moves.Stuck) (Ok moved.Nothing) first second known also =
    absurd (let x = first.1 in let y = second.1 in cc)
one_move hub one other c step (Err moves.Stuck) (Err moves.NoSite) first second known also = absurd (second.0 first.0)

-- and the hub after it is one
moved_once :
    (hub one other : HubData) (c : ℕ) (step : Step HubData) (m : Moved) → HasMoved hub one c step (Ok m)
    → HasMoved hub other c step (Ok m)
    → one ≡ other
moved_once hub one other c step moved.Done first second = led one other (sym first.1 ∙ second.1)
moved_once hub one other c step moved.Nothing first second = first.2 ∙ sym second.2

-- what a move comes to, where it is refused or done
module _ (hub : HubData) (c : ℕ) (step : Step HubData) where
  move_done_or_refused :
      (i : ℕ) (r : Reply) (one other : HubData) (m : Moved) (reason : Move) → HasMoved hub one c step (Ok m)
      → HasMoved hub other c step (Err reason) → TellsNotMoved i reason r → ⊥
  move_done_or_refused i r one other m reason done refused tells =
      moved_is_no_refusal m reason
      (one_move hub one other c step (Ok m) (Err reason) done refused (moved_is_no_refusal m moves.NoMemory)
      (move_memory_untold i reason r tells))

  move_refused_once :
      (i : ℕ) (r q : Reply) (one other : HubData) (reason because : Move) → HasMoved hub one c step (Err reason)
      → HasMoved hub other c step (Err because) → TellsNotMoved i reason r → TellsNotMoved i because q → r ≡ q
  move_refused_once i r q one other reason because first second tells says =
      let both : Err reason ≡ Err because =
      one_move hub one other c step (Err reason) (Err because) first second (move_memory_untold i reason r tells)
      (move_memory_untold i because q says) in
      let same : because ≡ reason = cc in
      not_moved_told_once i reason r q tells (subst (λ (e : Move). TellsNotMoved i e q) same says)

  move_done_once :
      (one other : HubData) (m n : Moved) → HasMoved hub one c step (Ok m)
      → HasMoved hub other c step (Ok n) → one ≡ other
  move_done_once one other m n first second =
      let both : Ok m ≡ Ok n =
      one_move hub one other c step (Ok m) (Ok n) first second (moved_is_no_refusal m moves.NoMemory)
      (moved_is_no_refusal n moves.NoMemory) in
      let same : n ≡ m = cc in
      moved_once hub one other c step m first (subst (λ (k : Moved). HasMoved hub other c step (Ok k)) same second)

-- an edit is answered in one way, but for want of memory
one_edit :
    (hub one other : HubData) (c : ℕ) (o : Op) (a b : Result (Unit {0}) Edit) → HasEdited hub one c o a
    → HasEdited hub other c o b
    → a ≢ Err edits.NoMemory → b ≢ Err edits.NoMemory → a ≡ b
one_edit hub one other c o (Err edits.NoMemory) b first second known also = absurd (known refl)
one_edit hub one other c o a (Err edits.NoMemory) first second known also = absurd (also refl)
one_edit hub one other c o (Ok x) (Ok y) first second known also = refl
one_edit hub one other c o (Err edits.NoSite) (Err edits.NoSite) first second known also = refl
one_edit hub one other c o (Err edits.WrongSite) (Err edits.WrongSite) first second known also = refl
one_edit hub one other c o (Err edits.WrongKind) (Err edits.WrongKind) first second known also = refl
one_edit hub one other c o (Err edits.NotEnabled) (Err edits.NotEnabled) first second known also = refl
one_edit hub one other c o (Err edits.Full) (Err edits.Full) first second known also = refl
one_edit hub one other c o (Err edits.NoSite) (Err edits.WrongSite) first second known also = absurd (first.0 second.0)
one_edit hub one other c o (Err edits.NoSite) (Err edits.WrongKind) first second known also =
    absurd (first.0 second.0.there)
one_edit hub one other c o (Err edits.NoSite) (Err edits.NotEnabled) first second known also =
    absurd (first.0 second.0.site.there)
one_edit hub one other c o (Err edits.NoSite) (Err edits.Full) first second known also =
    absurd (first.0 second.0.kind.site.there)
one_edit hub one other c o (Err edits.NoSite) (Ok x) first second known also = absurd (first.0 second.0.kind.site.there)
one_edit hub one other c o (Err edits.WrongSite) (Err edits.NoSite) first second known also = absurd (second.0 first.0)
one_edit hub one other c o (Err edits.WrongSite) (Err edits.WrongKind) first second known also =
    absurd (first.1 second.0.own)
one_edit hub one other c o (Err edits.WrongSite) (Err edits.NotEnabled) first second known also =
    absurd (first.1 second.0.site.own)
one_edit hub one other c o (Err edits.WrongSite) (Err edits.Full) first second known also =
    absurd (first.1 second.0.kind.site.own)
one_edit hub one other c o (Err edits.WrongSite) (Ok x) first second known also =
    absurd (first.1 second.0.kind.site.own)
one_edit hub one other c o (Err edits.WrongKind) (Err edits.NoSite) first second known also =
    absurd (second.0 first.0.there)
one_edit hub one other c o (Err edits.WrongKind) (Err edits.WrongSite) first second known also =
    absurd (second.1 first.0.own)
one_edit hub one other c o (Err edits.WrongKind) (Err edits.NotEnabled) first second known also =
    absurd (first.1 second.0.declared)
one_edit hub one other c o (Err edits.WrongKind) (Err edits.Full) first second known also =
    absurd (first.1 second.0.kind.declared)
one_edit hub one other c o (Err edits.WrongKind) (Ok x) first second known also =
    absurd (first.1 second.0.kind.declared)
one_edit hub one other c o (Err edits.NotEnabled) (Err edits.NoSite) first second known also =
    absurd (second.0 first.0.site.there)
one_edit hub one other c o (Err edits.NotEnabled) (Err edits.WrongSite) first second known also =
    absurd (second.1 first.0.site.own)
one_edit hub one other c o (Err edits.NotEnabled) (Err edits.WrongKind) first second known also =
    absurd (second.1 first.0.declared)
one_edit hub one other c o (Err edits.NotEnabled) (Err edits.Full) first second known also =
    absurd (first.1 second.0.enabled)
one_edit hub one other c o (Err edits.NotEnabled) (Ok x) first second known also = absurd (first.1 second.0.enabled)
one_edit hub one other c o (Err edits.Full) (Err edits.NoSite) first second known also =
    absurd (second.0 first.0.kind.site.there)
one_edit hub one other c o (Err edits.Full) (Err edits.WrongSite) first second known also =
    absurd (second.1 first.0.kind.site.own)
one_edit hub one other c o (Err edits.Full) (Err edits.WrongKind) first second known also =
    absurd (second.1 first.0.kind.declared)
one_edit hub one other c o (Err edits.Full) (Err edits.NotEnabled) first second known also =
    absurd (second.1 first.0.enabled)
one_edit hub one other c o (Err edits.Full) (Ok x) first second known also = absurd (second.1 first.1)
one_edit hub one other c o (Ok x) (Err edits.NoSite) first second known also = absurd (second.0 first.0.kind.site.there)
one_edit hub one other c o (Ok x) (Err edits.WrongSite) first second known also =
    absurd (second.1 first.0.kind.site.own)
one_edit hub one other c o (Ok x) (Err edits.WrongKind) first second known also =
    absurd (second.1 first.0.kind.declared)
one_edit hub one other c o (Ok x) (Err edits.NotEnabled) first second known also = absurd (second.1 first.0.enabled)
one_edit hub one other c o (Ok x) (Err edits.Full) first second known also = absurd (first.1 second.1)

-- an event that is done is not refused
done_or_refused : (hub : HubData) (i : ℕ) (event : HubEvent) (r : Reply) (new : HubData)
    → IsRefusedHubEvent hub i event r → ¬ (IsDone hub event new)
done_or_refused hub i (events.Edit c o) r new (reason, left, refused, tells) done =
    made_is_no_refusal reason
    (one_edit hub new left c o (Ok tt) (Err reason) done refused (made_is_no_refusal edits.NoMemory)
    (edit_memory_untold i reason r tells))
done_or_refused hub i (events.Up c) r new (reason, left, refused, tells) (m, done) =
    move_done_or_refused hub c (up_step hub c) i r new left m reason done refused tells
done_or_refused hub i (events.Down c) r new (reason, left, refused, tells) (m, done) =
    move_done_or_refused hub c (down_step hub c) i r new left m reason done refused tells

-- a refused event gets one reply
refused_once : (hub : HubData) (i : ℕ) (event : HubEvent) (r q : Reply) → IsRefusedHubEvent hub i event r
    → IsRefusedHubEvent hub i event q → r ≡ q
refused_once hub i (events.Edit c o) r q (reason, one, refused, tells) (because, other, again, says) =
    let both : Err reason ≡ Err because =
    one_edit hub one other c o (Err reason) (Err because) refused again (edit_memory_untold i reason r tells)
    (edit_memory_untold i because q says) in
    let same : because ≡ reason = cc in
    not_edited_told_once i reason r q tells (subst (λ (e : Edit). TellsNotEdited i e q) same says)
refused_once hub i (events.Up c) r q (reason, one, refused, tells) (because, other, again, says) =
    move_refused_once hub c (up_step hub c) i r q one other reason because refused again tells says
refused_once hub i (events.Down c) r q (reason, one, refused, tells) (because, other, again, says) =
    move_refused_once hub c (down_step hub c) i r q one other reason because refused again tells says

-- the hub after an event that is done is one
done_once : (hub : HubData) (event : HubEvent) (one other : HubData) → IsDone hub event one
    → IsDone hub event other → one ≡ other
done_once hub (events.Edit c o) one other first second = first.2 ∙ sym second.2
done_once hub (events.Up c) one other (m, first) (n, second) =
    move_done_once hub c (up_step hub c) one other m n first second
done_once hub (events.Down c) one other (m, first) (n, second) =
    move_done_once hub c (down_step hub c) one other m n first second

-- the reply to what a hub's file is read as is one
script_replied_once : (f : Function) (read : Result HubScript CaseFault) (r q : Reply) → IsReplyToHubScript f read r
    → IsReplyToHubScript f read q → r ≡ q
script_replied_once f (Err fault) r q first second = first ∙ sym second
script_replied_once f (Ok script) r q first second =
    runs_once TellsHub IsRefusedHubEvent IsDone hub_told_once refused_once done_once done_or_refused
    (begun_hub f script.doc script.clients) 0 script.events r q first second

-- the reply to a hub is one
pub hub_replied_once : (f : Function) (bytes : List ℕ) (r q : Reply) → IsReplyToHub f bytes r
    → IsReplyToHub f bytes q → r ≡ q
unfolding IsReplyToHub
hub_replied_once f bytes r q first second = script_replied_once f (hub_script_in bytes) r q first second
