-- A canary as contracts see it, and what happens to it.
use Rattle.std.specs.Prelude.{◌≡◌, ℕ, ◌+◌, ◌-◌, ◌<◌, ◌⊎◌, nat_le, min, pos, Bool, true, false, List, [], ◌∷◌, length, slice_get, slice_set, slice_index, slice_index_or, replicate, if◌then◌else◌, MatchBool, Option, Some, None}
use Rattle.std.specs.List.{list_any, range_with_len}
use Rattle.mr_node.specs.declared.command.NodeCommand.{NodeCommand}
use Rattle.mr_node.specs.declared.command.NodeCommand.TheVariants as commands
use Rattle.mr_proxy.specs.NodeRequests.{text_for}
use Rattle.mr_canary.specs.JudgeView.{JudgeView}
use Rattle.mr_canary.specs.Notes.{sets_of}
use Rattle.mr_sightings.specs.declared.trouble.Trouble.TheVariants.{NoReply, Silent}
use Rattle.mr_counting.specs.Counting.{sum_of}
use Rattle.mr_probes.specs.Clients.{HearsBytes, is_up, is_late_client, is_waiting, output_of, with_written}
use Rattle.mr_probes.specs.Dice.{dice_after, drawn}
use Rattle.mr_probes.specs.NotebookView.{NotebookView, IssuesSo, IsFirstSet, NeverSetBetween, TakesAnswer, fresh_notebook, keys_set}
use Rattle.mr_probes.specs.Pace.{pace_after, pace_at}
use Rattle.mr_probes.specs.Stamp.{stamp_text}
use Rattle.mr_probes.specs.declared.answering.Said.{Said}
use Rattle.mr_probes.specs.declared.answering.Said.TheVariants.{Failed}
use Rattle.mr_probes.specs.declared.canary.Goes.{Goes}
use Rattle.mr_probes.specs.declared.canary.Goes.TheVariants.{On, Off}
use Rattle.mr_probes.specs.declared.canary.Plan.{Plan}
use Rattle.mr_probes.specs.declared.client.Client.{Client}
use Rattle.mr_probes.specs.declared.client.Client.TheVariants.{Down, Idle, Waits}
use Rattle.mr_probes.specs.declared.client.Hearing.{Hearing}
use Rattle.mr_probes.specs.declared.client.Hearing.TheVariants as hears
use Rattle.mr_probes.specs.declared.client.Waiting.{Waiting}
use Rattle.mr_probes.specs.declared.course.Course.{Course}
use Rattle.mr_probes.specs.declared.stamp.Stamp.{Stamp}
use Rattle.mr_probes.specs.declared.wish.Kind.{Kind}
use Rattle.mr_probes.specs.declared.wish.Kind.TheVariants.{Get, Set, Delete}
use Rattle.mr_probes.specs.declared.wish.Wish.{Wish}

-- what is noted and counted, the clients by their places, and how the asking goes on
pub record CanaryView : Type 0 where
  pub clients : List Client
  pub notebook : NotebookView
  pub course : Course

-- a canary of these
abbrev pub canary_of : List Client → NotebookView → Course → CanaryView
canary_of clients notebook course = record { clients = clients; notebook = notebook; course = course }

-- nothing was asked yet, and no client has a connection
abbrev pub fresh_canary : Plan → CanaryView
fresh_canary plan = record {
  clients = replicate plan.clients Down;
  notebook = fresh_notebook plan.run plan.keys.items;
  course = record { pace = pace_at plan.rate; dice = record { state = plan.run }; turn = 0; cleaning = None; give_up = plan.give_up };
}

-- a request is due
abbrev pub is_due : ℕ → Course → Bool
is_due now course = nat_le course.pace.next now

-- the asking goes on behind a drawn request, and behind one of the last deletes
abbrev pub gone_on : (place now : ℕ) → Wish → Course → Course
gone_on place now wish course =
    if wish.cleans then record course { turn = place + 1; pace = pace_after now course.pace; cleaning = Some (sum_of wish.key 1) }
    else record course { turn = place + 1; pace = pace_after now course.pace; dice = dice_after course.dice }

-- this is to be asked next: while the canary asks at will, what is drawn; while it cleans, the last delete of the next key that was set
abbrev pub IsWishOf : Option ℕ → NotebookView → Course → Wish → Type 0
IsWishOf None notebook course wish = (0 < length notebook.keys) × (wish ≡ drawn course.dice (length notebook.keys))
IsWishOf (Some from) notebook course wish =
    (wish ≡ record { key = wish.key; kind = Delete; cleans = true }) × IsFirstSet notebook.judge from wish.key

-- the same by how far the last deletes are
abbrev pub IsWish : NotebookView → Course → Wish → Type 0
IsWish notebook course wish = IsWishOf course.cleaning notebook course wish

-- nothing is to be asked any more
abbrev pub HasNoWishOf : Option ℕ → NotebookView → Type 0
HasNoWishOf None notebook = notebook.keys ≡ []
HasNoWishOf (Some from) notebook = NeverSetBetween notebook.judge.notes from notebook.judge.keys

-- the same by how far the last deletes are
abbrev pub HasNoWish : NotebookView → Course → Type 0
HasNoWish notebook course = HasNoWishOf course.cleaning notebook

-- what is asked in place of a wish of this kind: a delete for a set of a key of which the judge keeps as many values as it may
abbrev pub fitting_kind : JudgeView → ℕ → Kind → Kind
fitting_kind judge key Get = Get
fitting_kind judge key Set = if nat_le 64 (slice_index judge.kept key) then Delete else Set
fitting_kind judge key Delete = Delete

-- what is asked in place of a wish
abbrev pub fitting : JudgeView → Wish → Wish
fitting judge wish = record wish { kind = fitting_kind judge wish.key wish.kind }

-- the command of a kind, of a key of this name, whose set says this
abbrev pub command_of : Kind → List ℕ → Stamp → NodeCommand
command_of Get key stamp = commands.Get key
command_of Set key stamp = commands.Set key 0 (pos 3600) (stamp_text stamp)
command_of Delete key stamp = commands.Delete key

-- the command of a wish
abbrev pub command_for : NotebookView → Wish → Stamp → NodeCommand
command_for notebook wish stamp = command_of wish.kind (slice_index_or notebook.keys wish.key []) stamp

-- what a set says
abbrev pub stamp_for : (client now : ℕ) → Wish → NotebookView → Stamp
stamp_for client now wish notebook =
    record { run = notebook.run; key = wish.key; value = sets_of notebook.judge.notes wish.key; client = client; time = now }

-- a client is about to send this: the judge notes it, and all of it is to be written
pub record Begins (client now : ℕ) (wish : Wish) (old : NotebookView) (waiting : Waiting) (new : NotebookView) : Type 0 where
  pub issued : IssuesSo old client now wish waiting.asking.probe new
  pub command : waiting.asking.command ≡ command_for old wish (stamp_for client now wish old)
  pub cleans : waiting.asking.cleans ≡ wish.cleans
  pub unsent : waiting.unsent ≡ text_for waiting.asking.command
  pub heard : waiting.heard ≡ []

-- the client of this place, which asked nothing, asks what was to be asked next
pub record AsksAt (now place : ℕ) (old new : CanaryView) : Type 0 where
  pub wish : Wish
  pub waiting : Waiting
  pub was_idle : slice_get old.clients place ≡ Some Idle
  pub was_due : is_due now old.course ≡ true
  pub wished : IsWish old.notebook old.course wish
  pub begun : Begins place now (fitting old.notebook.judge wish) old.notebook waiting new.notebook
  pub clients : new.clients ≡ slice_set old.clients place (Waits waiting)
  pub course : new.course ≡ gone_on place now wish old.course

-- the clients of these places, one after the other, ask what is to be asked next, or don't
abbrev pub AsksThrough : ℕ → List ℕ → CanaryView → CanaryView → Type 0
AsksThrough now [] old new = new ≡ old
AsksThrough now (place ∷ places) old new =
    (between : CanaryView) × (AsksAt now place old between ⊎ (between ≡ old)) × AsksThrough now places between new

-- what is due is asked: from the client on whose turn it is, and then by those before it
pub record IssuesDue (now : ℕ) (old new : CanaryView) : Type 0 where
  pub first : ℕ
  pub between : CanaryView
  pub first_is : first ≡ min old.course.turn (length old.clients)
  pub from_turn : AsksThrough now (range_with_len first (length old.clients - first)) old between
  pub before_turn : AsksThrough now (range_with_len 0 first) between new

-- this came of the request that a client waits for, if it waits for one
abbrev pub TakesOf : Option Client → Said → ℕ → NotebookView → NotebookView → Type 0
TakesOf None said now old new = new ≡ old
TakesOf (Some Down) said now old new = new ≡ old
TakesOf (Some Idle) said now old new = new ≡ old
TakesOf (Some (Waits waiting)) said now old new = TakesAnswer waiting.asking said now old new

-- this came of the request of the client of this place, which stands so then
pub record Settles (place now : ℕ) (said : Said) (next : Client) (old new : CanaryView) : Type 0 where
  pub taken : TakesOf (slice_get old.clients place) said now old.notebook new.notebook
  pub clients : new.clients ≡ slice_set old.clients place next
  pub course : new.course ≡ old.course

-- the client waits for longer than it may
abbrev pub is_late_in : Option Client → ℕ → ℕ → Bool
is_late_in None give_up now = false
is_late_in (Some client) give_up now = is_late_client give_up now client

-- the request of the client of this place is given up where it is late
abbrev pub GivesUpAt : (now place : ℕ) → CanaryView → CanaryView → Type 0
GivesUpAt now place old new =
    MatchBool (is_late_in (slice_get old.clients place) old.course.give_up now) (Settles place now (Failed Silent) Down old new) (new ≡ old)

-- the requests of the clients of these places are given up, one after the other, that wait for too long
abbrev pub GivesUpThrough : ℕ → List ℕ → CanaryView → CanaryView → Type 0
GivesUpThrough now [] old new = new ≡ old
GivesUpThrough now (place ∷ places) old new = (between : CanaryView) × GivesUpAt now place old between × GivesUpThrough now places between new

-- bytes came to a client
abbrev pub HearsIn : Option Client → ℕ → List ℕ → CanaryView → Hearing → CanaryView → Type 0
HearsIn None place bytes old hearing new = (hearing ≡ hears.Nonsense) × (new ≡ old)
HearsIn (Some client) place bytes old hearing new =
    (client' : Client) × HearsBytes old.notebook bytes client hearing client' × (new ≡ record old { clients = slice_set old.clients place client' })

-- what the client of this place makes of bytes; who isn't there makes nothing of them
abbrev pub HearsAt : ℕ → List ℕ → CanaryView → Hearing → CanaryView → Type 0
HearsAt place bytes old hearing new = HearsIn (slice_get old.clients place) place bytes old hearing new

-- What is done by what the bytes came to, and whether the connection is used on. Behind a reply what is due is asked; where more stands there
-- than the reply, and where none stands there, the connection is left.
abbrev pub ComesTo : (place now : ℕ) → Hearing → CanaryView → Goes → CanaryView → Type 0
ComesTo place now hears.Part heard goes new = (goes ≡ On) × (new ≡ heard)
ComesTo place now (hears.Says said true) heard goes new =
    (goes ≡ On) × (settled : CanaryView) × Settles place now said Idle heard settled × IssuesDue now settled new
ComesTo place now (hears.Says said false) heard goes new = (goes ≡ Off) × Settles place now said Down heard new
ComesTo place now hears.Nonsense heard goes new = (goes ≡ Off) × Settles place now (Failed NoReply) Down heard new
ComesTo place now hears.NoMemory heard goes new = (goes ≡ Off) × Settles place now (Failed NoReply) Down heard new

-- what bytes do that came over the connection of the client of this place
pub record TakesBytes (place now : ℕ) (bytes : List ℕ) (old : CanaryView) (goes : Goes) (new : CanaryView) : Type 0 where
  pub hearing : Hearing
  pub heard : CanaryView
  pub hears : HearsAt place bytes old hearing heard
  pub comes : ComesTo place now hearing heard goes new

-- what a moment does: requests that wait for too long are given up, and what is due is asked
pub record Ticks (now : ℕ) (old new : CanaryView) : Type 0 where
  pub given_up : CanaryView
  pub gives_up : GivesUpThrough now (range_with_len 0 (length old.clients)) old given_up
  pub issues : IssuesDue now given_up new

-- from now on nothing is asked but the last deletes
abbrev pub cleaning_from : Option ℕ → CanaryView → CanaryView
cleaning_from None canary = record canary {
  course = record canary.course { cleaning = Some 0 };
  notebook = record canary.notebook { left = keys_set canary.notebook.judge };
}
cleaning_from (Some from) canary = canary

-- the same of a canary that may clean already
abbrev pub begun_cleaning : CanaryView → CanaryView
begun_cleaning canary = cleaning_from canary.course.cleaning canary

-- no client waits for a reply, and the last delete of each key that was set was asked
pub record IsOver (canary : CanaryView) : Type 0 where
  pub from : ℕ
  pub cleans : canary.course.cleaning ≡ Some from
  pub all_asked : NeverSetBetween canary.notebook.judge.notes from canary.notebook.judge.keys
  pub none_waits : list_any is_waiting canary.clients ≡ false

-- so many bytes of a client's output were written
abbrev pub written_in : Option Client → (place count : ℕ) → CanaryView → CanaryView
written_in None place count canary = canary
written_in (Some client) place count canary = record canary { clients = slice_set canary.clients place (with_written count client) }

-- the same of the client of this place, if there is one
abbrev pub written : (place count : ℕ) → CanaryView → CanaryView
written place count canary = written_in (slice_get canary.clients place) place count canary

-- a client, if there is one, has a connection
abbrev pub is_up_in : Option Client → Bool
is_up_in None = false
is_up_in (Some client) = is_up client

-- the client of this place has a connection
abbrev pub is_up_at : CanaryView → ℕ → Bool
is_up_at canary place = is_up_in (slice_get canary.clients place)

-- what is to be written over the connection of a client, if there is one
abbrev pub output_in : Option Client → List ℕ
output_in None = []
output_in (Some client) = output_of client

-- what is to be written over the connection of the client of this place
abbrev pub output_at : CanaryView → ℕ → List ℕ
output_at canary place = output_in (slice_get canary.clients place)
