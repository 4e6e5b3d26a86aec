-- What a client sent that wasn't begun yet.
use Rattle.std.specs.Prelude.{◌≡◌, ◌≢◌, ◌⊎◌, Bool, true, false, not, Option, Some, None, Result, Ok, Err}
use Rattle.mr_text.specs.Requests.{SpellsRequest, RefusesRequest, SkipsLine, is_quit}
use Rattle.mr_text.specs.Stream.{NextIs, skips_line}
use Rattle.mr_text.specs.declared.error.TextError.{TextError}
use Rattle.mr_text.specs.declared.error.TextError.TheVariants.{Closed, OutOfMemory}
use Rattle.mr_text.specs.declared.request.Request.{Request}
use Rattle.mr_text.specs.declared.request.Request.TheVariants.{Quit}
use Rattle.mr_loop.specs.Links.{fresh_reader}
use Rattle.mr_loop.specs.declared.inbox.Fetched.{Fetched}
use Rattle.mr_loop.specs.declared.inbox.Fetched.TheVariants.{Came, Nothing, NoMemory, Done}
use Rattle.mr_loop.specs.declared.inbox.Inbox.{Inbox}
use Rattle.mr_loop.specs.declared.inbox.Input.{Input}
use Rattle.mr_loop.specs.declared.inbox.Input.TheVariants as input

-- nothing came of the client
abbrev pub fresh_inbox : Inbox
fresh_inbox = record { reader = fresh_reader; held = None; waits = false; has_ended = false; is_done = false }

-- what was held back is there again
abbrev pub without_held : Inbox → Inbox
without_held inbox = record inbox { held = None }

-- this is held back
abbrev pub holding : Input → Inbox → Inbox
holding input inbox = record inbox { held = Some input; waits = true }

-- what stands first is held back before it is read
abbrev pub waiting : Inbox → Inbox
waiting inbox = record inbox { waits = true }

-- what stood first is done
abbrev pub going_on : Inbox → Inbox
going_on inbox = record inbox { waits = false }

-- nothing was held back, and the reader answers this; whether nothing more is read of the client then
pub record ReadsOne (old : Inbox) (answer : Result (Option Request) TextError) (is_done : Bool) (new : Inbox) : Type 0 where
  pub none_held : old.held ≡ None
  pub goes_on : old.is_done ≡ false
  pub next : NextIs SpellsRequest RefusesRequest SkipsLine is_quit old.reader new.reader old.reader.kept answer
  pub same_held : new.held ≡ None
  pub same_wait : new.waits ≡ old.waits
  pub same_end : new.has_ended ≡ old.has_ended
  pub done : new.is_done ≡ is_done

-- what was held back comes first
pub record TakesHeld (input : Input) (old new : Inbox) : Type 0 where
  pub held : old.held ≡ Some input
  pub taken : new ≡ without_held old

-- what stands next of a client: a request, or what was refused of its text
abbrev pub FetchIs : Inbox → Fetched → Inbox → Type 0
FetchIs old (Came (input.Asks request)) new =
    TakesHeld (input.Asks request) old new ⊎ (ReadsOne old (Ok (Some request)) false new × (request ≢ Quit))
FetchIs old (Came (input.Refused refusal)) new =
    TakesHeld (input.Refused refusal) old new
    ⊎ (ReadsOne old (Err refusal) (not (skips_line refusal)) new × (refusal ≢ Closed) × (refusal ≢ OutOfMemory))
FetchIs old Nothing new = ReadsOne old (Ok None) false new × (old.has_ended ≡ false)
FetchIs old NoMemory new = ReadsOne old (Err OutOfMemory) false new
-- it quit, its input ended, or its text was refused before
FetchIs old Done new =
    ((old.held ≡ None) × (old.is_done ≡ true) × (new ≡ old)) ⊎ ReadsOne old (Ok (Some Quit)) true new
    ⊎ (ReadsOne old (Ok None) true new × (old.has_ended ≡ true)) ⊎ ReadsOne old (Err Closed) true new
