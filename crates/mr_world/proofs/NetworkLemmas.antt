-- What the calls of a network come to.
use Rattle.std.proofs.Common.{◌≡◌, ◌≢◌, ℕ, zero, suc, not, cond, position, bytes_eq, ◌+◌, ◌-◌, ◌^◌, ◌<◌, ◌≤◌, pos, take, nat_lt, inl, inr, Bool, true, false, List, [], ◌∷◌, ◌++◌, length, map, All, get_or, slice_get, slice_set, slice_index_or, Option, Some, None, if◌then◌else◌, MatchOption, refl, sym, ap, subst, ◌∙◌, arith}
use Rattle.std.proofs.lemmas.Bool.{le-leb, cases_order}
use Rattle.std.proofs.lemmas.Bool.Decides.{eqb_tells}
use Rattle.std.proofs.Math.Seq.{take-suc}
use Rattle.std.proofs.lemmas.List.{length-map, get_or-map, map-append}
use Rattle.std.proofs.lemmas.List.Elements.{All-cons}
use Rattle.std.proofs.lemmas.Option.{slice_get-get_or, slice_get_read, get_or_from_slice_get, none-some}
use Rattle.std.specs.List.{position_or_len}
use Rattle.std.specs.Option.{option_map}
use borrow.Author.Tests.{ltb-false, ltb-true}
use Rattle.mr_text.specs.declared.request.Request.{Request}
use Rattle.mr_text.specs.declared.request.Request.TheVariants as kind
use Rattle.mr_text.specs.Valid.{IsValidRequest}
use Rattle.mr_history.specs.declared.entry.Entry.{Entry}
use Rattle.mr_history.specs.declared.entry.Author.TheVariants.{By}
use Rattle.mr_history.specs.declared.entry.Entry.TheVariants.{Stored, Removed}
use Rattle.mr_history.specs.History.{WasIssued, Fits}
use Rattle.mr_history.specs.Places.{At}
use Rattle.mr_node.specs.declared.command.NodeCommand.{NodeCommand}
use Rattle.mr_node.specs.declared.command.NodeCommand.TheVariants.{Get, Set, Delete}
use Rattle.mr_node.specs.Recency.{CacheView, RecencyStep}
use Rattle.mr_join.specs.declared.leg_reply.LegReply.{LegReply}
use Rattle.mr_pools.specs.Names.{HasNode}
use Rattle.mr_pools.specs.Routing.{RoutingView, IsRouting, pool_of}
use Rattle.mr_proxy.specs.declared.sheet.LegSheet.{LegSheet}
use Rattle.mr_proxy.specs.declared.error.ProxyError.{ProxyError}
use Rattle.mr_proxy.specs.declared.error.ProxyError.TheVariants.{NumbersSpent}
use Rattle.mr_proxy.specs.Issue.{refusal_of}
use Rattle.mr_proxy.specs.Sound.{HasLegs}
use Rattle.mr_proxy.specs.Sheets.{IsPlaced}
use Rattle.mr_proxy.specs.ProxyView.{ProxyView, fresh_proxy}
use Rattle.mr_proxy.specs.Sheets.{pool_at}
use Rattle.mr_proxy.specs.declared.world_error.WorldError.{WorldError}
use Rattle.mr_proxy.specs.declared.world_error.WorldError.TheVariants.{IssueRefused, OutOfMemory}
use Rattle.mr_world.specs.declared.event.Event.TheVariants.{Client}
use Rattle.mr_world.specs.declared.note.Note.{Note}
use Rattle.mr_world.specs.declared.setup.HeldItem.{HeldItem}
use Rattle.mr_world.specs.declared.setup.ProxySetup.{ProxySetup}
use Rattle.mr_world.specs.declared.message.Message.{Message}
use Rattle.mr_world.specs.declared.message.Delivery.{Delivery}
use Rattle.mr_world.specs.declared.node.Node.{Node}
use Rattle.mr_world.specs.Lists.{Has}
use Rattle.mr_world.specs.Nodes.{PerformsAt}
use Rattle.mr_world.specs.Network.{NetworkView, numbers_at, HasNumber, message_by}
use Rattle.mr_world.specs.Refusals.{refused_past, refused_restart, refused_request, TakesMemory, IsEventRefusal}
use Rattle.mr_world.specs.Setup.{proxies_from, AllAlike, hold_at, hold}
use Rattle.mr_world.specs.Steps.{message_of, performed, Issues, ClientAsks}
use Rattle.mr_world.specs.Positions.{node_number}
use Rattle.mr_world.specs.Tracked.{numbers_in}
use Rattle.mr_world.specs.WorldView.{WorldView}
use Rattle.mr_world.proofs.Lists.{at_within, has_head, has_tail}

pub not_past : (refusal : WorldError) (number count : ℕ) → number < count → refused_past refusal number count ≡ None
not_past refusal number count below =
    let e : nat_lt number count ≡ true = le-leb (suc number) count (omega arith) in
    rw e refl

all_one : {X : Type 0} (P : X → Type 0) (x : X) → P x → All P (x ∷ [])
all_one P x h = All-cons P x [] h (λ k d below. absurd (omega arith))

pub performed_all : (H : List Entry) (sheet : LegSheet) (command : NodeCommand) → WasIssued H sheet.id.op → All (Fits H) (performed sheet command)
performed_all H sheet (Get key) was = λ k d below. absurd (omega arith)
performed_all H sheet (Set key flags exptime block) was = all_one (Fits H) (Stored (By sheet.id.op) key flags block) was
performed_all H sheet (Delete key) was = all_one (Fits H) (Removed sheet.id.op sheet.side key) was

pub restart_accepted : (p : ProxyView) → p.incarnation ≢ 2 ^ 64 - 1 → refused_restart (Some p) ≡ None
restart_accepted p apart = elim (eqb_tells p.incarnation (2 ^ 64 - 1)) [ inl e ↦ absurd (apart (e.1)) | inr e ↦ rw (e.0) refl ]

pub restart_refused : (p : ProxyView) → ((p.incarnation ≢ 2 ^ 64 - 1) → ⊥) → refused_restart (Some p) ≡ Some (IssueRefused NumbersSpent)
restart_refused p last = elim (eqb_tells p.incarnation (2 ^ 64 - 1)) [ inl e ↦ rw (e.0) refl | inr e ↦ absurd (last (e.1)) ]

-- a state whose parts are equal

pub same_delivered : (w : WorldView) {nodes nodes' : List Node} {replies replies' : List Delivery} {history history' : List Entry} → nodes ≡ nodes' → replies ≡ replies'
    → history ≡ history' → record w { nodes = nodes; replies = replies; history = history } ≡ record w { nodes = nodes'; replies = replies'; history = history' }
same_delivered w {nodes' = nodes'} {replies = replies} {replies' = replies'} {history = history} d e f =
    ap (λ (l : List Node). record w { nodes = l; replies = replies; history = history }) d
    ∙ ap (λ (x : List Delivery). record w { nodes = nodes'; replies = x; history = history }) e
    ∙ ap (λ (y : List Entry). record w { nodes = nodes'; replies = replies'; history = y }) f

pub same_moved : (w : WorldView) (place : ℕ) (proxy proxy' : ProxyView) (history history' : List Entry) → proxy ≡ proxy' → history ≡ history'
    → record w { proxies = slice_set w.proxies place proxy; history = history } ≡ record w { proxies = slice_set w.proxies place proxy'; history = history' }
same_moved w place proxy proxy' history history' e f =
    ap (λ (x : ProxyView). record w { proxies = slice_set w.proxies place x; history = history }) e
    ∙ ap (λ (y : List Entry). record w { proxies = slice_set w.proxies place proxy'; history = y }) f

pub same_issued : (w : WorldView) (place : ℕ) (proxy proxy' : ProxyView) (sent sent' : List Message) (history history' : List Entry) → proxy ≡ proxy' → sent ≡ sent'
    → history ≡ history'
    → record w { proxies = slice_set w.proxies place proxy; sent = sent; history = history } ≡ record w { proxies = slice_set w.proxies place proxy'; sent = sent'; history = history' }
same_issued w place proxy proxy' sent sent' history history' e d f =
    ap (λ (x : ProxyView). record w { proxies = slice_set w.proxies place x; sent = sent; history = history }) e
    ∙ ap (λ (z : List Message). record w { proxies = slice_set w.proxies place proxy'; sent = z; history = history }) d
    ∙ ap (λ (y : List Entry). record w { proxies = slice_set w.proxies place proxy'; sent = sent'; history = y }) f

-- what the tables of numbers say

module _ (nodes : List Node) (p : ProxyView) (sheet : LegSheet) (has : HasNode p.routing (pool_at sheet) sheet.node) where
  numbers_there : numbers_at (numbers_in nodes p) sheet ≡ map (node_number nodes) (pool_of p.routing (pool_at sheet))
  numbers_there = get_or-map (λ pool. map (node_number nodes) pool) p.routing.pools (pool_at sheet) [] [] has.pool

  pub has_number : HasNumber (numbers_in nodes p) sheet
  has_number =
      let pools = length-map p.routing.pools (λ (pool : List (List ℕ)). map (node_number nodes) pool) in
      let count = ap length numbers_there ∙ length-map (pool_of p.routing (pool_at sheet)) (node_number nodes) in
      let there = has.pool in
      let within = has.within in
      record { pool = omega arith; node = omega arith }

  pub same_message : message_by (numbers_in nodes p) sheet ≡ message_of nodes p.routing sheet
  same_message =
      let number = ap (λ numbers. slice_index_or numbers sheet.node 0) numbers_there
      ∙ get_or-map (node_number nodes) (pool_of p.routing (pool_at sheet)) sheet.node [] 0 has.within in
      ap (λ (n : ℕ). record { sheet = sheet; node = n }) number

pub same_messages : (nodes : List Node) (p : ProxyView) (sheets : List LegSheet) → ((sheet : LegSheet) → Has sheets sheet → HasNode p.routing (pool_at sheet) sheet.node)
    → map (message_by (numbers_in nodes p)) sheets ≡ map (message_of nodes p.routing) sheets
same_messages nodes p [] each = refl
same_messages nodes p (sheet ∷ sheets) each =
    let first = same_message nodes p sheet (each sheet (has_head sheet sheets)) in
    let rest = same_messages nodes p sheets (λ x h. each x (has_tail sheet h)) in
    ap (λ m. m ∷ map (message_by (numbers_in nodes p)) sheets) first ∙ ap (λ l. message_of nodes p.routing sheet ∷ l) rest

pub have_numbers : (nodes : List Node) (p : ProxyView) (sheets : List LegSheet) → ((sheet : LegSheet) → Has sheets sheet → HasNode p.routing (pool_at sheet) sheet.node)
    → All (HasNumber (numbers_in nodes p)) sheets
have_numbers nodes p sheets each k d below =
    has_number nodes p (get_or sheets k d) (each (get_or sheets k d) (record { place = k; there = record { gets = slice_get-get_or sheets k d below } }))

-- legs that are sent one by one

append_one : {X : Type 0} (xs : List X) (y : X) (ys : List X) → xs ++ y ∷ ys ≡ (xs ++ y ∷ []) ++ ys
append_one [] y ys = refl
append_one (x ∷ xs) y ys = ap (λ l. x ∷ l) (append_one xs y ys)

pub sent_more : (numbers : List (List ℕ)) (all before after : List Message) (leg sheet : LegSheet) (legs rest : List LegSheet) (node : ℕ) → legs ≡ leg ∷ rest → sheet ≡ leg
    → slice_get (numbers_at numbers sheet) sheet.node ≡ Some node → after ≡ before ++ record { sheet = sheet; node = node } ∷ []
    → all ≡ before ++ map (message_by numbers) legs → all ≡ after ++ map (message_by numbers) rest
sent_more numbers all before after leg sheet legs rest node split same at pushed is =
    let message : Message = record { sheet = sheet; node = node } in
    let by : message_by numbers leg ≡ message = ap (message_by numbers) (sym same)
    ∙ ap (λ (n : ℕ). record { sheet = sheet; node = n }) (get_or_from_slice_get (numbers_at numbers sheet) sheet.node node 0 at) in
    is ∙ ap (λ l. before ++ map (message_by numbers) l) split ∙ append_one before (message_by numbers leg) (map (message_by numbers) rest)
    ∙ ap (λ m. (before ++ m ∷ []) ++ map (message_by numbers) rest) by ∙ ap (λ l. l ++ map (message_by numbers) rest) (sym pushed)

pub all_rest : {X : Type 0} (P : X → Type 0) (xs : List X) (x : X) (ys : List X) → xs ≡ x ∷ ys → All P xs → All P ys
all_rest P xs x ys e all = λ k d below. (let h = subst (All P) e all in h (suc k) d (omega arith))

pub cores_more : (number : ℕ) (all before after : List ProxyView) (core : ProxyView) (proxy : ProxySetup) (proxies rest : List ProxySetup) → proxies ≡ proxy ∷ rest
    → core ≡ fresh_proxy number 0 proxy.routing proxy.schedule proxy.room → after ≡ before ++ core ∷ []
    → before ++ proxies_from number proxies ≡ all → after ++ proxies_from (number + 1) rest ≡ all
cores_more number all before after core proxy proxies rest split made pushed is =
    ap (λ l. l ++ proxies_from (number + 1) rest) pushed
    ∙ ap (λ c. (before ++ c ∷ []) ++ proxies_from (number + 1) rest) made
    ∙ sym (append_one before (fresh_proxy number 0 proxy.routing proxy.schedule proxy.room) (proxies_from (number + 1) rest))
    ∙ ap (λ l. before ++ proxies_from number l) (sym split) ∙ is

-- what holds of the elements so far, and of one more
pub each_more : {X : Type 0} (P : X → Type 0) (xs : List X) (i : ℕ) (x : X) → ((k : ℕ) (d : X) → k < i → P (get_or xs k d)) → x ≡ get_or xs i x → i < length xs → P x
    → (k : ℕ) (d : X) → k < i + 1 → P (get_or xs k d)
each_more P xs i x before is within here k d below =
    let there = slice_get_read xs (length xs) i x refl within is in
    elim (cases_order k i) [
      | inl same ↦ subst (λ n. P (get_or xs n d)) (sym same) (subst P (sym (get_or_from_slice_get xs i x d there)) here)
      | inr apart ↦ elim apart [ inl less ↦ before k d less | inr less ↦ absurd (omega arith) ]
    ]

-- the first node of a name

position_some : {X : Type 0} (test : X → Bool) (xs : List X) (k : ℕ) (b : Bool) → (if b then Some (position_or_len test xs) else None) ≡ Some k → k ≡ position_or_len test xs
position_some test xs k true e = cc
position_some test xs k false e = cc

pub found_at : {X : Type 0} (test : X → Bool) (xs : List X) (k : ℕ) → position test xs ≡ Some k → k ≡ position_or_len test xs
found_at test xs k e = position_some test xs k (nat_lt (position_or_len test xs) (length xs)) e

pub within_length : {X : Type 0} (test : X → Bool) (xs : List X) → position_or_len test xs ≤ length xs
within_length test [] = omega arith
within_length test (x ∷ xs) =
    elim (test x) as (λ b. cond (not b) (1 + position_or_len test xs) 0 ≤ suc (length xs)) [
      | true ↦ omega arith
      | false ↦ let later = within_length test xs in omega arith
    ]

position_none : {X : Type 0} (test : X → Bool) (xs : List X) (b : Bool) → nat_lt (position_or_len test xs) (length xs) ≡ b
    → (if b then Some (position_or_len test xs) else None) ≡ None → length xs ≡ position_or_len test xs
position_none test xs true t e = cc
position_none test xs false t e = let past = ltb-false _ _ t in let most = within_length test xs in omega arith

pub not_found : {X : Type 0} (test : X → Bool) (xs : List X) → position test xs ≡ None → length xs ≡ position_or_len test xs
not_found test xs e = position_none test xs (nat_lt (position_or_len test xs) (length xs)) refl e

pub found_node : (nodes : List Node) (name : List ℕ) (k : ℕ) → position (λ node. bytes_eq node.name name) nodes ≡ Some k → k ≡ node_number nodes name
found_node nodes name k e = found_at (λ node. bytes_eq node.name name) nodes k e

pub no_node : (nodes : List Node) (name : List ℕ) → position (λ node. bytes_eq node.name name) nodes ≡ None → length nodes ≡ node_number nodes name
no_node nodes name e = not_found (λ node. bytes_eq node.name name) nodes e

-- a proxy that isn't like the first
pub unlike : (proxies : List ProxySetup) (first item : ProxySetup) (rest : List ProxySetup) (i : ℕ) → proxies ≡ first ∷ rest → i < length rest → item ≡ get_or rest i item
    → AllAlike proxies → (item.routing ≡ first.routing) × (item.schedule ≡ first.schedule)
unlike proxies first item rest i split below read alike =
    let here = subst AllAlike split alike in
    let same = here 0 (suc i) item (omega arith) (omega arith) in (
      ap (λ (x : ProxySetup). x.routing) read ∙ sym (same.0),
      ap (λ (x : ProxySetup). x.schedule) read ∙ sym (same.1),
    )

-- a request that is no quit

pub asked_refusal : (p : ProxyView) (request : Request) (r : Option ProxyError) → request ≢ kind.Quit → refusal_of p ≡ r
    → refused_request (Some p) request ≡ option_map IssueRefused r
asked_refusal p (kind.Get keys) r no_quit e = ap (option_map IssueRefused) e
asked_refusal p (kind.Set key flags exptime block noreply) r no_quit e = ap (option_map IssueRefused) e
asked_refusal p (kind.Delete key noreply) r no_quit e = ap (option_map IssueRefused) e
asked_refusal p kind.Quit r no_quit e = absurd (no_quit refl)

takes_memory : (number : ℕ) (request : Request) → request ≢ kind.Quit → TakesMemory (Client number request)
takes_memory number (kind.Get keys) no_quit = tt
takes_memory number (kind.Set key flags exptime block noreply) no_quit = tt
takes_memory number (kind.Delete key noreply) no_quit = tt
takes_memory number kind.Quit no_quit = absurd (no_quit refl)

is_refused : (number : ℕ) (request : Request) (refusal : Option ProxyError) (e : WorldError) → request ≢ kind.Quit
    → MatchOption refusal (e ≡ OutOfMemory) (λ r. e ≡ IssueRefused r) → IsEventRefusal (option_map IssueRefused refusal) (Client number request) e
is_refused number request None e no_quit memory = (takes_memory number request no_quit, memory)
is_refused number request (Some r) e no_quit same = same

pub asked_refused : (number : ℕ) (o : Option ProxyView) (p : ProxyView) (request : Request) (e : WorldError) → request ≢ kind.Quit → o ≡ Some p
    → MatchOption (refusal_of p) (e ≡ OutOfMemory) (λ r. e ≡ IssueRefused r) → IsEventRefusal (refused_request o request) (Client number request) e
asked_refused number o p request e no_quit home refused =
    let is : refused_request o request ≡ option_map IssueRefused (refusal_of p) =
    ap (λ x. refused_request x request) home ∙ asked_refusal p request (refusal_of p) no_quit refl in
    subst (λ r. IsEventRefusal r (Client number request) e) (sym is) (is_refused number request (refusal_of p) e no_quit refused)

pub asked_for_memory : (number : ℕ) (o : Option ProxyView) (p : ProxyView) (request : Request) → request ≢ kind.Quit → o ≡ Some p → refusal_of p ≡ None
    → IsEventRefusal (refused_request o request) (Client number request) OutOfMemory
asked_for_memory number o p request no_quit home accepted =
    let refused : MatchOption (refusal_of p) (OutOfMemory ≡ OutOfMemory) (λ r. OutOfMemory ≡ IssueRefused r) = rw accepted refl in
    asked_refused number o p request OutOfMemory no_quit home refused

pub asks_of : (old : WorldView) (number : ℕ) (request : Request) (note : Note) (new : WorldView) → request ≢ kind.Quit → Issues old number request note new
    → ClientAsks old number request note new
asks_of old number (kind.Get keys) note new no_quit step = step
asks_of old number (kind.Set key flags exptime block noreply) note new no_quit step = step
asks_of old number (kind.Delete key noreply) note new no_quit step = step
asks_of old number kind.Quit note new no_quit step = absurd (no_quit refl)

pub valid_has_legs : (request : Request) → request ≢ kind.Quit → IsValidRequest request → HasLegs request
valid_has_legs (kind.Get keys) no_quit valid = valid.some
valid_has_legs (kind.Set key flags exptime block noreply) no_quit valid = tt
valid_has_legs (kind.Delete key noreply) no_quit valid = tt
valid_has_legs kind.Quit no_quit valid = absurd (no_quit refl)

pub placed_there : (routing : RoutingView) (sheets : List LegSheet) → IsRouting routing → All (IsPlaced routing) sheets → (sheet : LegSheet) → Has sheets sheet
    → HasNode routing (pool_at sheet) sheet.node
placed_there routing sheets r all sheet h =
    subst (IsPlaced routing) (get_or_from_slice_get sheets h.place sheet sheet h.there.gets) (all h.place sheet (at_within h.there))

-- a network of which nothing changed

pub set_same : {X : Type 0} (xs : List X) (k : ℕ) (x : X) → slice_get xs k ≡ Some x → slice_set xs k x ≡ xs
set_same [] k x e = cc
set_same (y ∷ xs) zero x e = let is : y ≡ x = cc in ap (λ z. z ∷ xs) (sym is)
set_same (y ∷ xs) (suc k) x e = ap (λ l. y ∷ l) (set_same xs k x e)

pub unchanged : (v : NetworkView) (place : ℕ) (proxy old : ProxyView) (sent : List Message) (history : List Entry) → At v.world.proxies place old → proxy ≡ old
    → sent ≡ v.world.sent → history ≡ v.world.history
    → record v { world = record v.world { proxies = slice_set v.world.proxies place proxy; sent = sent; history = history } } ≡ v
unchanged v place proxy old sent history at same sent_is history_is =
    let proxies : slice_set v.world.proxies place proxy ≡ v.world.proxies = ap (slice_set v.world.proxies place) same ∙ set_same v.world.proxies place old at.gets in
    ap (λ (l : List ProxyView). record v { world = record v.world { proxies = l; sent = sent; history = history } }) proxies
    ∙ ap (λ (l : List Message). record v { world = record v.world { sent = l; history = history } }) sent_is
    ∙ ap (λ (l : List Entry). record v { world = record v.world { history = l } }) history_is

-- the loops that make a network

pub map_more : {X Y : Type 0} (f : X → Y) (xs : List X) (i : ℕ) (d : X) → i < length xs → map f (take (i + 1) xs) ≡ map f (take i xs) ++ f (get_or xs i d) ∷ []
map_more f xs i d below =
    let next : i + 1 ≡ suc i = omega arith in
    ap (λ n. map f (take n xs)) next ∙ ap (map f) (take-suc xs i d below) ∙ map-append f (take i xs) (get_or xs i d ∷ [])

within_some : {X : Type 0} (test : X → Bool) (xs : List X) (k : ℕ) (b : Bool) → nat_lt (position_or_len test xs) (length xs) ≡ b
    → (if b then Some (position_or_len test xs) else None) ≡ Some k → k < length xs
within_some test xs k true t e =
    let is : position_or_len test xs ≡ k = cc in
    let below = ltb-true (position_or_len test xs) (length xs) t in
    omega arith
within_some test xs k false t e = absurd (none-some k e)

pub found_within : (nodes : List Node) (name : List ℕ) (k : ℕ) → position (λ node. bytes_eq node.name name) nodes ≡ Some k → k < length nodes
found_within nodes name k e = within_some (λ node. bytes_eq node.name name) nodes k (nat_lt (node_number nodes name) (length nodes)) refl e

-- a node that was found and set what is held holds it
pub held_by : (nodes : List Node) (item : HeldItem) (number : ℕ) (command : NodeCommand) (reply : LegReply) (new : List Node)
    → Some number ≡ position (λ node. bytes_eq node.name item.node) nodes → command ≡ Set item.key item.flags (pos 0) item.block
    → PerformsAt nodes number 0 command reply new → new ≡ hold nodes item
held_by nodes item number command reply new found made did =
    let named = node_number nodes item.node in
    let same : number ≡ named = found_node nodes item.node number (sym found) in
    let there : slice_get nodes named ≡ Some did.node = subst (λ k. slice_get nodes k ≡ Some did.node) same did.there.gets in
    let leaves = (subst (λ (c : NodeCommand). RecencyStep did.node.cache 0 c reply did.left) made did.step).leaves in
    did.becomes ∙ ap (λ k. slice_set nodes k (record { name = did.node.name; cache = did.left })) same
    ∙ ap (λ (cache : CacheView). slice_set nodes named (record { name = did.node.name; cache = cache })) leaves
    ∙ ap (hold_at nodes named item) (sym there)
