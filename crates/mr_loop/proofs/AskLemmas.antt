-- What a client asks, one thing after the other.
use Rattle.std.proofs.Common.{◌≡◌, ◌≢◌, ℕ, ◌+◌, ◌*◌, ◌<◌, inl, inr, List, Bool, true, false, Option, Some, None, Result, Ok, Err, length, refl, ap, ◌∙◌, arith}
use Rattle.std.specs.Prelude.{not}
use Rattle.mr_text.specs.Requests.{SpellsRequest, RefusesRequest, SkipsLine, is_quit}
use Rattle.mr_text.specs.Stream.{ReaderView, StandsFor, NextIs, unread, skips_line}
use Rattle.mr_text.specs.declared.error.TextError.{TextError}
use Rattle.mr_text.specs.declared.error.TextError.TheVariants.{LineTooLong, BadKey, BadNumber, WrongWords, DataTooLong, BadDataEnd, UnknownCommand, Truncated, Closed, OutOfMemory}
use Rattle.mr_text.specs.declared.request.Request.{Request}
use Rattle.mr_loop.specs.declared.asker.Asker.{Asker}
use Rattle.mr_loop.specs.declared.asking.Pause.{Pause}
use Rattle.mr_loop.specs.declared.asking.Pause.TheVariants.{NeedsBytes, NeedsRoom, NeedsReader, NeedsQueue, NeedsMemory, IsDone}
use Rattle.mr_counting.specs.ClientCounts.{held_once}
use Rattle.mr_counting.specs.declared.client_counts.ClientCounts.{ClientCounts}
use Rattle.mr_loop.specs.declared.inbox.Fetched.TheVariants.{Came, NoMemory}
use Rattle.mr_loop.specs.declared.inbox.Inbox.{Inbox}
use Rattle.mr_loop.specs.declared.inbox.Input.{Input}
use Rattle.mr_loop.specs.declared.inbox.Input.TheVariants as input
use Rattle.mr_loop.specs.declared.link.Link.{Link}
use Rattle.mr_loop.specs.Asking.{Asking, StopsFor, HoldsBack, is_behind}
use Rattle.mr_loop.specs.Events.{FrontView}
use Rattle.mr_loop.specs.Inboxes.{FetchIs, ReadsOne, TakesHeld, holding, waiting, going_on}
use Rattle.mr_loop.specs.steps.Asking.{AnswersSo}

abbrev held_count : Option Input → ℕ
held_count None = 0
held_count (Some input) = 1

abbrev open_count : Bool → ℕ
open_count true = 0
open_count false = 1

-- how much of what a client sent is still to be done
abbrev pub left : Inbox → ℕ
left inbox = 2 * length inbox.reader.kept + held_count inbox.held + open_count inbox.is_done

-- a request that is read leaves fewer bytes
abbrev pub RequestsLeaveLess : Type 0
RequestsLeaveLess = (old new : ReaderView) (rest : List ℕ) (request : Request) → StandsFor old rest
    → NextIs SpellsRequest RefusesRequest SkipsLine is_quit old new rest (Ok (Some request)) → unread new < unread old

abbrev pub LinesLeaveLess : Type 0
LinesLeaveLess = (old new : ReaderView) (rest : List ℕ) → StandsFor old rest
    → NextIs SpellsRequest RefusesRequest SkipsLine is_quit old new rest (Err (UnknownCommand false)) → unread new < unread old

less_held : (old new : Inbox) (input : Input) → TakesHeld input old new → left new < left old
less_held old new input t =
    let was = ap held_count t.held in
    let is = ap left t.taken in
    omega arith

less_read : (old new : Inbox) (answer : Result (Option Request) TextError) → ReadsOne old answer false new
    → unread new.reader < unread old.reader → left new < left old
less_read old new answer r less =
    let was_held = ap held_count r.none_held in
    let is_held = ap held_count r.same_held in
    let was_open = ap open_count r.goes_on in
    let is_open = ap open_count r.done in
    omega arith

less_closed : (old new : Inbox) (answer : Result (Option Request) TextError) → ReadsOne old answer true new
    → new.reader.kept ≡ old.reader.kept → left new < left old
less_closed old new answer r same =
    let bytes = ap (λ (l : List ℕ). length l) same in
    let was_held = ap held_count r.none_held in
    let is_held = ap held_count r.same_held in
    let was_open = ap open_count r.goes_on in
    let is_open = ap open_count r.done in
    omega arith

less_refused : (old new : Inbox) (refusal : TextError) → LinesLeaveLess → ReadsOne old (Err refusal) (not (skips_line refusal)) new
    → refusal ≢ Closed → refusal ≢ OutOfMemory → left new < left old
less_refused old new LineTooLong law r c m = less_closed old new _ r r.next.2.stands
less_refused old new BadKey law r c m = less_closed old new _ r r.next.2.stands
less_refused old new BadNumber law r c m = less_closed old new _ r r.next.2.stands
less_refused old new WrongWords law r c m = less_closed old new _ r r.next.2.stands
less_refused old new DataTooLong law r c m = less_closed old new _ r r.next.2.stands
less_refused old new BadDataEnd law r c m = less_closed old new _ r r.next.2.stands
less_refused old new (UnknownCommand true) law r c m = less_closed old new _ r r.next.2.stands
less_refused old new (UnknownCommand false) law r c m = less_read old new _ r (law old.reader new.reader old.reader.kept refl r.next)
less_refused old new Truncated law r c m = less_closed old new _ r r.next.3.stands
less_refused old new Closed law r c m = absurd (c refl)
less_refused old new OutOfMemory law r c m = absurd (m refl)

-- what is fetched leaves less to be done
pub less_left : (old new : Inbox) (it : Input) → RequestsLeaveLess → LinesLeaveLess → FetchIs old (Came it) new → left new < left old
less_left old new (input.Asks request) law lines (inl held) = less_held old new (input.Asks request) held
less_left old new (input.Asks request) law lines (inr read) = less_read old new _ read.0 (law old.reader new.reader old.reader.kept request refl read.0.next)
less_left old new (input.Refused refusal) law lines (inl held) = less_held old new (input.Refused refusal) held
less_left old new (input.Refused refusal) law lines (inr read) = less_refused old new refusal lines read.0 read.1 read.2

-- what is done leaves what was fetched
pub less_done : (old fetched new : Inbox) → left fetched < left old → new ≡ going_on fetched → left new < left old
less_done old fetched new less done =
    let same : left new ≡ left fetched = ap left done in
    omega arith

abbrev asking_of : Inbox → FrontView → List Link → ClientCounts → Asking
asking_of inbox front links counts = record { inbox = inbox; front = front; links = links; counts = counts }

same_asking : (inbox other : Inbox) (front front' : FrontView) (links links' : List Link) (counts counts' : ClientCounts)
    → other ≡ inbox → front' ≡ front → links' ≡ links → counts' ≡ counts
    → asking_of other front' links' counts' ≡ asking_of inbox front links counts
same_asking inbox other front front' links links' counts counts' p q r k =
    ap (λ i. asking_of i front' links' counts') p ∙ ap (λ f. asking_of inbox f links' counts') q ∙ ap (λ l. asking_of inbox front l counts') r
    ∙ ap (λ n. asking_of inbox front links n) k

held_back : (asker : Asker) (old : Asking) (fetched inbox' : Inbox) (it back : Input) (front' : FrontView) (links' : List Link) (counts' : ClientCounts)
    → is_behind asker.limits asker.client old.front ≡ false → FetchIs old.inbox (Came it) fetched
    → inbox' ≡ holding back fetched → counts' ≡ held_once fetched.waits old.counts
    → back ≡ it → front' ≡ old.front → links' ≡ old.links
    → HoldsBack asker old (asking_of inbox' front' links' counts') it
held_back asker old fetched inbox' it back front' links' counts' may came held counted same p q = record {
  fetched = fetched;
  may = may;
  came = came;
  held = same_asking (holding it fetched) inbox' old.front front' old.links links' (held_once fetched.waits old.counts) counts'
      (held ∙ ap (λ i. holding i fetched) same) p q counted;
}

-- what came is held back
pub stops_held : (asker : Asker) (old : Asking) (fetched inbox' : Inbox) (it back : Input) (pause : Pause) (front' : FrontView) (links' : List Link)
    (counts' : ClientCounts) → is_behind asker.limits asker.client old.front ≡ false → FetchIs old.inbox (Came it) fetched
    → inbox' ≡ holding back fetched → counts' ≡ held_once fetched.waits old.counts
    → AnswersSo asker old.front old.links it (Err (pause, back)) front' links'
    → StopsFor asker pause old (record { inbox = inbox'; front = front'; links = links'; counts = counts' })
stops_held asker old fetched inbox' (input.Asks request) back NeedsRoom front' links' counts' may came held counted a =
    (request, held_back asker old fetched inbox' (input.Asks request) back front' links' counts' may came held counted a.0 a.1 a.2, a.3)
stops_held asker old fetched inbox' (input.Asks request) back (NeedsQueue number) front' links' counts' may came held counted a =
    (request, held_back asker old fetched inbox' (input.Asks request) back front' links' counts' may came held counted a.0 a.1 a.2, a.3.0, a.3.1)
stops_held asker old fetched inbox' (input.Asks request) back NeedsMemory front' links' counts' may came held counted a =
    inr (input.Asks request, held_back asker old fetched inbox' (input.Asks request) back front' links' counts' may came held counted a.0 a.1 a.2, a.3)
stops_held asker old fetched inbox' (input.Asks request) back NeedsBytes front' links' counts' may came held counted a = absurd a.3
stops_held asker old fetched inbox' (input.Asks request) back NeedsReader front' links' counts' may came held counted a = absurd a.3
stops_held asker old fetched inbox' (input.Asks request) back IsDone front' links' counts' may came held counted a = absurd a.3
stops_held asker old fetched inbox' (input.Refused refusal) back NeedsMemory front' links' counts' may came held counted a =
    inr (input.Refused refusal, held_back asker old fetched inbox' (input.Refused refusal) back front' links' counts' may came held counted a.0 a.1 a.2, a.3)
stops_held asker old fetched inbox' (input.Refused refusal) back (NeedsQueue number) front' links' counts' may came held counted a = absurd a.3
stops_held asker old fetched inbox' (input.Refused refusal) back NeedsBytes front' links' counts' may came held counted a = absurd a.3
stops_held asker old fetched inbox' (input.Refused refusal) back NeedsRoom front' links' counts' may came held counted a = absurd a.3
stops_held asker old fetched inbox' (input.Refused refusal) back NeedsReader front' links' counts' may came held counted a = absurd a.3
stops_held asker old fetched inbox' (input.Refused refusal) back IsDone front' links' counts' may came held counted a = absurd a.3

-- memory to read what is there was refused
pub stops_unread : (asker : Asker) (old : Asking) (fetched inbox' : Inbox) (counts' : ClientCounts) → is_behind asker.limits asker.client old.front ≡ false
    → FetchIs old.inbox NoMemory fetched → inbox' ≡ waiting fetched → counts' ≡ held_once fetched.waits old.counts
    → StopsFor asker NeedsMemory old (record { inbox = inbox'; front = old.front; links = old.links; counts = counts' })
stops_unread asker old fetched inbox' counts' may refused held counted = inl (record {
  fetched = fetched;
  may = may;
  refused = refused;
  left = same_asking (waiting fetched) inbox' old.front old.front old.links old.links (held_once fetched.waits old.counts) counts' held refl refl counted;
})
