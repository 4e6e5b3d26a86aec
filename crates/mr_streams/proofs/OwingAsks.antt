-- What a client asks is owed to nodes: at most one leg of each set that is issued.
use Rattle.std.proofs.Common.{◌≡◌, ℕ, zero, suc, ◌≤◌, ◌<◌, ◌==◌, inl, inr, Bool, true, false, List, [], ◌∷◌, length, map, slice_set, Some, if◌then◌else◌, refl, sym, ap, ◌∙◌, subst, arith}
use Rattle.std.specs.Prelude.{slice_index_or}
use Rattle.std.specs.List.{AllByRecursion, sum_by}
use Rattle.std.proofs.lemmas.List.{set-set}
use Rattle.std.proofs.lemmas.List.Sums.{sum_by-append, sum_by-cons}
use Rattle.mr_text.specs.declared.request.Request.{Request}
use Rattle.mr_text.specs.declared.request.Request.TheVariants as request
use Rattle.mr_history.specs.Places.{At}
use Rattle.mr_history.specs.declared.entry.Entry.TheVariants as entry
use Rattle.mr_node.specs.declared.command.NodeCommand.{NodeCommand}
use Rattle.mr_node.specs.declared.command.NodeCommand.TheVariants.{Get, Delete}
use Rattle.mr_proxy.specs.Issue.{next_op, sheets_of, used_reading}
use Rattle.mr_proxy.specs.NodeRequests.{request_for}
use Rattle.mr_proxy.specs.ProxyView.{ProxyView}
use Rattle.mr_proxy.specs.declared.sheet.LegSheet.{LegSheet}
use Rattle.mr_loop.specs.Asking.{Asking, DoesAll, IsDoneFor}
use Rattle.mr_loop.specs.Events.{FrontView}
use Rattle.mr_loop.specs.Links.{all_sent, all_up}
use Rattle.mr_loop.specs.declared.asker.Asker.{Asker}
use Rattle.mr_loop.specs.declared.inbox.Inbox.{Inbox}
use Rattle.mr_loop.specs.declared.inbox.Input.{Input}
use Rattle.mr_loop.specs.declared.inbox.Input.TheVariants as input
use Rattle.mr_loop.specs.declared.link.Link.{Link}
use Rattle.mr_loop.specs.declared.node.client.NodeClient.{NodeClient}
use Rattle.mr_streams.specs.Entries.{issued_by, issued_in}
use Rattle.mr_streams.specs.StreamsView.{Connection}
use Rattle.mr_streams.proofs.Asking.{all_from, begun_next, issued_new}
use Rattle.mr_streams.proofs.Legal.{came_legal, came_held}
use Rattle.mr_streams.proofs.Lists.{at_written}
use Rattle.mr_streams.proofs.Mirrors.{IsLegal, IsLegalInput}
use Rattle.mr_streams.proofs.Owing.{Picks, AreCarried, sets, sets_of_sheet, issued, issued_at, stored, stored_at}
use Rattle.mr_streams.proofs.Travels.{IsReadableSheet, legs_fit}
use Rattle.mr_streams.proofs.OwingLinks.{AreSingle, OwesMore, legs_go}
use Rattle.mr_streams.proofs.Placing.{SheetLaws}

-- gets and deletes set nothing
gets_light : (is : Picks) (keys : List (List ℕ)) (k : ℕ) (command : NodeCommand) → k < length (map Get keys) → slice_index_or (map Get keys) k command ≡ command
    → sets is (request_for command) ≡ 0
gets_light is [] k command below e = absurd (omega arith)
gets_light is (key ∷ keys) zero command below e = subst (λ c. sets is (request_for c) ≡ 0) e refl
gets_light is (key ∷ keys) (suc k) command below e = gets_light is keys k command (omega arith) e

delete_light : (is : Picks) (key : List ℕ) (k : ℕ) (command : NodeCommand) → k < length (Delete key ∷ []) → slice_index_or (Delete key ∷ []) k command ≡ command
    → sets is (request_for command) ≡ 0
delete_light is key zero command below e = subst (λ c. sets is (request_for c) ≡ 0) e refl
delete_light is key (suc k) command below e = absurd (let l : suc k < 1 = below in omega arith)

none_heavy : (is : Picks) (sheets : List LegSheet) → AllByRecursion (λ (sheet : LegSheet). sets_of_sheet is sheet ≡ 0) sheets → sum_by (sets_of_sheet is) sheets ≡ 0
none_heavy is [] all = refl
none_heavy is (sheet ∷ sheets) all =
    let sum = sum_by-cons (sets_of_sheet is) sheet sheets in
    let first = all.0 in
    let others = none_heavy is sheets all.1 in
    omega arith

-- a request has at most one leg that sets what it sets
legs_weigh : SheetLaws → (is : Picks) (core : ProxyView) (reading : ℕ) (asked : Request) → sum_by (sets_of_sheet is) (sheets_of core reading asked) ≤ sets is asked
legs_weigh laws is core reading (request.Get keys) =
    let sheets : List LegSheet = sheets_of core reading (request.Get keys) in
    let none = none_heavy is sheets (all_from (λ (sheet : LegSheet). sets_of_sheet is sheet ≡ 0) sheets
    (λ i sheet e. (
    let says = laws.say core.routing core.schedule (next_op core) (used_reading core.last reading) (request.Get keys) i sheet e in
    gets_light is keys says.command.0 sheet.command says.command.1 says.command.2))) in
    omega arith
legs_weigh laws is core reading (request.Set key flags exptime block noreply) = omega arith
legs_weigh laws is core reading (request.Delete key noreply) =
    let sheets : List LegSheet = sheets_of core reading (request.Delete key noreply) in
    let none = none_heavy is sheets (all_from (λ (sheet : LegSheet). sets_of_sheet is sheet ≡ 0) sheets
    (λ i sheet e. (
    let says = laws.say core.routing core.schedule (next_op core) (used_reading core.last reading) (request.Delete key noreply) i sheet e in
    delete_light is key says.command.0 sheet.command says.command.1 says.command.2))) in
    omega arith
legs_weigh laws is core reading request.Quit = omega arith

-- the text of each leg can be read
legs_readable : SheetLaws → (core : ProxyView) (asker : Asker) (asked : Request) → IsLegal asked → AllByRecursion IsReadableSheet (sheets_of core asker.reading asked)
legs_readable laws core asker asked legal =
    all_from IsReadableSheet (sheets_of core asker.reading asked)
    (λ i sheet e. legal.valid sheet.command (laws.say core.routing core.schedule (next_op core) (used_reading core.last asker.reading) asked i sheet e).command)

issues_as : (is : Picks) (op : _) (proxy : ℕ) (asked : Request) → issued is (entry.Issued op proxy asked ∷ []) ≡ sets is asked
issues_as is op proxy asked = (let sum = sum_by-cons (issued_at is) (entry.Issued op proxy asked) [] in omega arith)

-- what is issued stores nothing
stores_none_if : (is : Picks) (b : Bool) (op : _) (proxy : ℕ) (asked : Request) → stored is (if b then [] else entry.Issued op proxy asked ∷ []) ≡ 0
stores_none_if is true op proxy asked = refl
stores_none_if is false op proxy asked = (let sum = sum_by-cons (stored_at is) (entry.Issued op proxy asked) [] in omega arith)

issue_stores_none : (is : Picks) (next : Input) (old new : ProxyView) → stored is (issued_by next old new) ≡ 0
issue_stores_none is (input.Asks asked) old new = stores_none_if is (new.next == old.next) (next_op old) old.number asked
issue_stores_none is (input.Refused refusal) old new = refl

pub asks_store_none : (is : Picks) (asker : Asker) (old new : Asking) (did : DoesAll asker old new) → stored is (issued_in did) ≡ 0
asks_store_none is asker old new DoesAll.starts = refl
asks_store_none is asker old new (DoesAll.goes_on {between = between} before one) =
    let sum = sum_by-append (stored_at is) (issued_in before) (issued_by one.input between.front.core new.front.core) in
    let a = asks_store_none is asker old between before in
    let b = issue_stores_none is one.input between.front.core new.front.core in
    omega arith

-- what is held back stays legal
pub asks_legal : (asker : Asker) (old new : Asking) (did : DoesAll asker old new) → IsLegalInput old.inbox.held → IsLegalInput new.inbox.held
asks_legal asker old new DoesAll.starts legal = legal
asks_legal asker old new (DoesAll.goes_on {between = between} before one) legal =
    subst (λ (x : Inbox). IsLegalInput x.held) (sym one.goes_on) (came_held between.inbox one.fetched one.input one.came)

module _ (laws : SheetLaws) (is : Picks) (lines : List (List Link)) (seats : List (List NodeClient)) (connections : List Connection) (p : ℕ) (first : List Link) where
  -- what is owed where the links of the proxy are these
  abbrev pub OwedOver : List Link → List ℕ → Type 0
  OwedOver links owed = AreCarried is (slice_set lines p links) seats connections owed

  abbrev pub OwesOver : List Link → List ℕ → ℕ → Type 0
  OwesOver links owed more = OwesMore is seats (slice_set lines p links) connections owed more

  stays_owed : (links links' : List Link) (owed : List ℕ) (more : ℕ) → links' ≡ links → OwedOver links owed → OwesOver links' owed more
  stays_owed links links' owed more e h = record { now = owed; carried = subst (λ l. OwedOver l owed) (sym e) h; few = omega arith }

  -- one thing that a client sent is done
  one_owed : (asker : Asker) (next : Input) (front front' : FrontView) (links links' : List Link) (owed : List ℕ) → AreSingle connections → At lines p first
      → IsLegalInput (Some next) → IsDoneFor asker front links next front' links' → OwedOver links owed
      → OwesOver links' owed (issued is (issued_by next front.core front'.core))
  one_owed asker (input.Asks asked) front front' links links' owed single there legal done h =
      elim done [
        | inl begun ↦ (
            let core : ProxyView = front.core in
            let sheets : List LegSheet = sheets_of core asker.reading asked in
            let all : Bool = all_up core.routing sheets links in
            let went = legs_go is seats sheets (slice_set lines p links) connections owed p links asker core.routing single (at_written links there) (legs_readable laws core asker asked legal)
            (legs_fit core.routing core.schedule (next_op core) (used_reading core.last asker.reading) asked legal.fits) h in
            let gains = issued_new asked core front'.core (ap (λ (f : FrontView). f.core.next) begun.happens ∙ begun_next asker asked all front) in
            let as_asked : issued is (issued_by (input.Asks asked) core front'.core) ≡ sets is asked = ap (λ g. issued is g) gains ∙ issues_as is (next_op core) core.number asked in
            let weigh = legs_weigh laws is core asker.reading asked in
            record {
              now = went.now;
              carried = subst (λ l. OwedOver l went.now) (sym begun.went)
                  (subst (λ l. AreCarried is l seats connections went.now) (set-set lines p links (all_sent asker core.routing sheets links)) went.carried);
              few = (let few = went.few in omega arith);
            })
        | inr other ↦ elim other [
          | inl quits ↦ stays_owed links links' owed (issued is (issued_by (input.Asks asked) front.core front'.core)) quits.1 h
          | inr third ↦ elim third [
            | inl spent ↦ stays_owed links links' owed (issued is (issued_by (input.Asks asked) front.core front'.core)) spent.1 h
            | inr memory ↦ stays_owed links links' owed (issued is (issued_by (input.Asks asked) front.core front'.core)) memory.1 h
          ]
        ]
      ]
  one_owed asker (input.Refused refusal) front front' links links' owed single there legal done h =
      stays_owed links links' owed (issued is (issued_by (input.Refused refusal) front.core front'.core)) done.1 h

  -- all that a client sent is done, as far as it may be
  pub asks_owed : (asker : Asker) (old new : Asking) (did : DoesAll asker old new) (owed : List ℕ) → AreSingle connections → At lines p first → IsLegalInput old.inbox.held
      → OwedOver old.links owed → OwesOver new.links owed (issued is (issued_in did))
  asks_owed asker old new DoesAll.starts owed single there legal h = record { now = owed; carried = h; few = omega arith }
  asks_owed asker old new (DoesAll.goes_on {between = between} before one) owed single there legal h =
      let early = asks_owed asker old between before owed single there legal h in
      let legal_next = came_legal between.inbox one.fetched one.input (asks_legal asker old between before legal) one.came in
      let late = one_owed asker one.input between.front new.front between.links new.links early.now single there legal_next one.done early.carried in
      let sum = sum_by-append (issued_at is) (issued_in before) (issued_by one.input between.front.core new.front.core) in
      record { now = late.now; carried = late.carried; few = (let a = early.few in let b = late.few in omega arith) }
