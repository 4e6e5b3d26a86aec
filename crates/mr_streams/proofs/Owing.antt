-- How many sets of some values nodes may still perform: those whose texts are on their way over connections.
use Rattle.std.proofs.Common.{◌≡◌, ℕ, ◌+◌, ◌≤◌, Bool, true, false, List, ◌++◌, length, get_or, Option, Some, arith}
use Rattle.std.specs.List.{flat_map, AllByRecursion, sum_by}
use Rattle.std.proofs.lemmas.List.Sums.{sum_by-append}
use Rattle.mr_text.specs.Valid.{IsValidRequest}
use Rattle.mr_text.specs.declared.request.Request.{Request}
use Rattle.mr_text.specs.declared.request.Request.TheVariants as request
use Rattle.mr_history.specs.Places.{At}
use Rattle.mr_history.specs.declared.entry.Entry.{Entry}
use Rattle.mr_history.specs.declared.entry.Entry.TheVariants as entry
use Rattle.mr_proxy.specs.NodeRequests.{request_for}
use Rattle.mr_proxy.specs.declared.sheet.LegSheet.{LegSheet}
use Rattle.mr_loop.specs.Links.{text_of}
use Rattle.mr_loop.specs.declared.link.Link.{Link}
use Rattle.mr_loop.specs.declared.node.client.NodeClient.{NodeClient}
use Rattle.mr_loop.specs.declared.sent_legs.SentLeg.{SentLeg}
use Rattle.mr_streams.specs.Flows.{request_of}
use Rattle.mr_streams.specs.StreamsView.{StreamsView, Connection}
use Rattle.mr_streams.proofs.Mirrors.{lines_of, seats_of}

-- which values are counted, by their keys and blocks
abbrev pub Picks : Type 0
Picks = List ℕ → List ℕ → Bool

abbrev pub one_if : Bool → ℕ
one_if true = 1
one_if false = 0

-- one for a set of such a value
abbrev pub sets : Picks → Request → ℕ
sets is (request.Get keys) = 0
sets is (request.Set key flags exptime block noreply) = one_if (is key block)
sets is (request.Delete key noreply) = 0
sets is request.Quit = 0

abbrev pub sets_of_sheet : Picks → LegSheet → ℕ
sets_of_sheet is sheet = sets is (request_for sheet.command)

abbrev pub sets_of_leg : Picks → SentLeg → ℕ
sets_of_leg is sent = sets is (request_of sent)

-- one for an entry that issues such a set
abbrev pub issued_at : Picks → Entry → ℕ
issued_at is (entry.Issued op proxy request) = sets is request
issued_at is (entry.Stored by key flags block) = 0
issued_at is (entry.Removed op side key) = 0
issued_at is (entry.Answered op reply) = 0

-- one for an entry that stores such a value
abbrev pub stored_at : Picks → Entry → ℕ
stored_at is (entry.Issued op proxy request) = 0
stored_at is (entry.Stored by key flags block) = one_if (is key block)
stored_at is (entry.Removed op side key) = 0
stored_at is (entry.Answered op reply) = 0

-- how many such sets a history issues, and how often it stores such a value
abbrev pub issued : Picks → List Entry → ℕ
issued is history = sum_by (issued_at is) history

abbrev pub stored : Picks → List Entry → ℕ
stored is history = sum_by (stored_at is) history

-- the node's end of a connection is there and reads on, with these bytes kept
pub record Keeps (seats : List (List NodeClient)) (node : ℕ) (place : Option ℕ) (kept : List ℕ) : Type 0 where
  pub number : ℕ
  pub clients : List NodeClient
  pub client : NodeClient
  pub is_open : place ≡ Some number
  pub home : At seats node clients
  pub there : At clients number client
  pub hears : client.inbox.is_done ≡ false
  pub kept_is : client.inbox.reader.kept ≡ kept

-- the proxy's end of a connection is there: its link is up, with these bytes to be written
pub record Writes (lines : List (List Link)) (proxy number : ℕ) (out : List ℕ) : Type 0 where
  pub links : List Link
  pub link : Link
  pub home : At lines proxy links
  pub there : At links number link
  pub is_up : link.is_up ≡ true
  pub out_is : link.out ≡ out

-- a leg whose text can be read
abbrev pub IsReadable : SentLeg → Type 0
IsReadable sent = IsValidRequest (request_of sent)

-- What is on its way to a node over a connection are the texts of legs, of which at most so many are such sets. Where the proxy's end of it
-- is gone some bytes stand for those that were to be written.
pub record Carries (is : Picks) (lines : List (List Link)) (seats : List (List NodeClient)) (c : Connection) (most : ℕ) : Type 0 where
  pub legs : List SentLeg
  pub out : List ℕ
  pub readable : AllByRecursion IsReadable legs
  pub few : sum_by (sets_of_leg is) legs ≤ most
  pub texts : (kept : List ℕ) → Keeps seats c.node c.place kept → kept ++ (c.forth ++ out) ≡ flat_map text_of legs
  pub here : c.is_left ≡ false → Writes lines c.proxy c.link out

-- so it is with each connection, for which so many are owed at its place
pub record AreCarried (is : Picks) (lines : List (List Link)) (seats : List (List NodeClient)) (connections : List Connection) (owed : List ℕ) : Type 0 where
  pub as_many : length owed ≡ length connections
  pub each : (number : ℕ) (c : Connection) → At connections number c → Carries is lines seats c (get_or owed number 0)

abbrev pub itself : ℕ → ℕ
itself n = n

-- how many are owed over all connections
abbrev pub total : List ℕ → ℕ
total owed = sum_by itself owed

-- what is owed, and what was stored beyond what was at the beginning, is no more than was issued
pub record Owes (is : Picks) (first : ℕ) (s : StreamsView) : Type 0 where
  pub owed : List ℕ
  pub carried : AreCarried is (lines_of s.loops) (seats_of s.nodes) s.connections owed
  pub within : total owed + stored is s.history ≤ first + issued is s.history

-- the history gains entries
pub within_more : (is : Picks) (first before after : ℕ) (history gains : List Entry) → before + stored is history ≤ first + issued is history
    → after + stored is gains ≤ before + issued is gains → after + stored is (history ++ gains) ≤ first + issued is (history ++ gains)
within_more is first before after history gains old new =
    let stores = sum_by-append (stored_at is) history gains in
    let issues = sum_by-append (issued_at is) history gains in
    omega arith
