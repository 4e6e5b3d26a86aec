-- What the tests of an entry tell.
use Rattle.std.proofs.Common.{◌≡◌, ◌∙◌, ℕ, Bool, true, false, ◌&&◌, ◌==◌, List, Some, None, refl, ap, cond, subst, arith}
use Rattle.std.proofs.lemmas.Bool.Decides.{nat_tests}
use Rattle.std.proofs.lemmas.Slice.Eq.{bytes_eq-Decides}
use Rattle.std.specs.Str.{bytes_eq}
use Rattle.std.specs.List.{list_any}
use Rattle.mr_text.specs.declared.item.Item.{Item}
use Rattle.mr_text.specs.declared.request.Request.{Request}
use Rattle.mr_text.specs.declared.request.Request.TheVariants.{Get, Set, Delete, Quit}
use Rattle.mr_text.specs.declared.reply.Reply.{Reply}
use Rattle.mr_text.specs.declared.reply.Reply.TheVariants.{Items, Stored as SetDone, Deleted, NotFound, Error, ClientError, ServerError}
use Rattle.mr_join.specs.Join.{Acknowledges}
use Rattle.mr_history.specs.declared.op_id.OpId.{OpId}
use Rattle.mr_history.specs.declared.entry.Author.{Author}
use Rattle.mr_history.specs.declared.entry.Entry.{Entry}
use Rattle.mr_history.specs.declared.entry.Entry.TheVariants.{Issued, Stored, Removed, Answered}
use Rattle.mr_history.specs.Places.{At}
use Rattle.mr_history.specs.History.{WasIssued, WasAnswered}
use Rattle.mr_history.specs.OpIds.{is_same_op}
use Rattle.mr_history.specs.steps.Tests.{is_issued, is_answered, is_get, is_issued_get, is_stored, acknowledges, is_acknowledged, issued_delete, delete_of_request}
use Rattle.mr_history.proofs.Lists.{any_place, none_passes}

both : (a b : Bool) → (a && b) ≡ true → (a ≡ true) × (b ≡ true)
both true true h = (refl, refl)
both true false h = cc
both false b h = cc

abbrev op_of : ℕ → ℕ → ℕ → OpId
op_of proxy incarnation number = record { proxy = proxy; incarnation = incarnation; number = number }

pub same_op : (a b : OpId) → is_same_op a b ≡ true → a ≡ b
same_op a b h =
    let (rest, r) = both ((a.proxy == b.proxy) && (a.incarnation == b.incarnation)) (a.number == b.number) h in
    let (p, q) = both (a.proxy == b.proxy) (a.incarnation == b.incarnation) rest in
    let e : a.proxy ≡ b.proxy = grind (arith, nat_tests) in
    let f : a.incarnation ≡ b.incarnation = grind (arith, nat_tests) in
    let g : a.number ≡ b.number = grind (arith, nat_tests) in
    ap (λ (k : ℕ). op_of k a.incarnation a.number) e ∙ ap (λ (k : ℕ). op_of b.proxy k a.number) f ∙ ap (λ (k : ℕ). op_of b.proxy b.incarnation k) g

pub same_op_true : (a : OpId) → is_same_op a a ≡ true
same_op_true a = grind (arith, nat_tests)

pub issued_entry : (op : OpId) (entry : Entry) → is_issued op entry ≡ true → (proxy : ℕ) × (request : Request) × (entry ≡ Issued op proxy request)
issued_entry op (Issued op' proxy request) h = (proxy, request, ap (λ o. Issued o proxy request) (same_op op' op h))
issued_entry op (Stored by key flags block) h = cc
issued_entry op (Removed op' side key) h = cc
issued_entry op (Answered op' reply) h = cc

pub answered_entry : (op : OpId) (entry : Entry) → is_answered op entry ≡ true → (reply : Reply) × (entry ≡ Answered op reply)
answered_entry op (Issued op' proxy request) h = cc
answered_entry op (Stored by key flags block) h = cc
answered_entry op (Removed op' side key) h = cc
answered_entry op (Answered op' reply) h = (reply, ap (λ o. Answered o reply) (same_op op' op h))

-- some element that passes stands at a place
pub place_any : {X : Type 0} (test : X → Bool) (xs : List X) (place : ℕ) (x : X) → At xs place x → test x ≡ true → list_any test xs ≡ true
place_any test xs place x there passes =
    elim (list_any test xs) as (λ b. list_any test xs ≡ b → b ≡ true) [
      | true ↦ λ e. refl
      | false ↦ λ e. let fails = none_passes test xs place x e there.gets in cc
    ] refl

pub issued_if : (entries : List Entry) (op : OpId) → list_any (is_issued op) entries ≡ true → WasIssued entries op
issued_if entries op h =
    let (place, entry, there, passes) = any_place (is_issued op) entries h in
    let (proxy, request, same) = issued_entry op entry passes in
    record { place = place; request = request; issued = record { proxy = proxy; there = subst (λ e. At entries place e) same there } }

pub issued_then : (entries : List Entry) (op : OpId) → WasIssued entries op → list_any (is_issued op) entries ≡ true
issued_then entries op h = place_any (is_issued op) entries h.place _ h.issued.there (same_op_true op)

pub answered_if : (entries : List Entry) (op : OpId) → list_any (is_answered op) entries ≡ true → WasAnswered entries op
answered_if entries op h =
    let (place, entry, there, passes) = any_place (is_answered op) entries h in
    let (reply, same) = answered_entry op entry passes in
    record { place = place; reply = reply; there = subst (λ e. At entries place e) same there }

pub answered_then : (entries : List Entry) (op : OpId) → WasAnswered entries op → list_any (is_answered op) entries ≡ true
answered_then entries op h = place_any (is_answered op) entries h.place _ h.there (same_op_true op)

pub stored_entry : (item : Item) (entry : Entry) → is_stored item entry ≡ true → (by : Author) × (entry ≡ Stored by item.key item.flags item.block)
stored_entry item (Issued op proxy request) h = cc
stored_entry item (Removed op side key) h = cc
stored_entry item (Answered op reply) h = cc
stored_entry item (Stored by key flags block) h =
    let (rest, r) = both ((flags == item.flags) && bytes_eq key item.key) (bytes_eq block item.block) h in
    let (p, q) = both (flags == item.flags) (bytes_eq key item.key) rest in
    let e : flags ≡ item.flags = grind (arith, nat_tests) in
    let f : key ≡ item.key = (bytes_eq-Decides key item.key).0 q in
    let g : block ≡ item.block = (bytes_eq-Decides block item.block).0 r in
    (by, cc)

pub stored_passes : (item : Item) (by : Author) → is_stored item (Stored by item.key item.flags item.block) ≡ true
stored_passes item by =
    let p : (item.flags == item.flags) ≡ true = grind (arith, nat_tests) in
    let q : bytes_eq item.key item.key ≡ true = (bytes_eq-Decides item.key item.key).1 refl in
    let r : bytes_eq item.block item.block ≡ true = (bytes_eq-Decides item.block item.block).1 refl in
    rw (p, q, r) refl

acknowledging : (reply : Reply) → acknowledges reply ≡ true → Acknowledges reply
acknowledging (Items items) h = cc
acknowledging SetDone h = cc
acknowledging Deleted h = tt
acknowledging NotFound h = tt
acknowledging Error h = cc
acknowledging (ClientError cause) h = cc
acknowledging (ServerError cause) h = cc

pub acknowledges_true : (reply : Reply) → Acknowledges reply → acknowledges reply ≡ true
acknowledges_true (Items items) h = absurd h
acknowledges_true SetDone h = absurd h
acknowledges_true Deleted h = refl
acknowledges_true NotFound h = refl
acknowledges_true Error h = absurd h
acknowledges_true (ClientError cause) h = absurd h
acknowledges_true (ServerError cause) h = absurd h

pub acknowledged_entry : (op : OpId) (entry : Entry) → is_acknowledged op entry ≡ true → (reply : Reply) × Acknowledges reply × (entry ≡ Answered op reply)
acknowledged_entry op (Issued op' proxy request) h = cc
acknowledged_entry op (Stored by key flags block) h = cc
acknowledged_entry op (Removed op' side key) h = cc
acknowledged_entry op (Answered op' reply) h =
    let (p, q) = both (acknowledges reply) (is_same_op op' op) h in
    (reply, acknowledging reply p, ap (λ o. Answered o reply) (same_op op' op q))

pub acknowledged_passes : (op : OpId) (reply : Reply) → Acknowledges reply → is_acknowledged op (Answered op reply) ≡ true
acknowledged_passes op reply h = rw (acknowledges_true reply h, same_op_true op) refl

get_request : (request : Request) → is_get request ≡ true → (keys : List (List ℕ)) × (request ≡ Get keys)
get_request (Get keys) h = (keys, refl)
get_request (Set key flags exptime block noreply) h = cc
get_request (Delete key noreply) h = cc
get_request Quit h = cc

pub issued_get_entry : (op : OpId) (entry : Entry) → is_issued_get op entry ≡ true → (proxy : ℕ) × (keys : List (List ℕ)) × (entry ≡ Issued op proxy (Get keys))
issued_get_entry op (Stored by key flags block) h = cc
issued_get_entry op (Removed op' side key) h = cc
issued_get_entry op (Answered op' reply) h = cc
issued_get_entry op (Issued op' proxy request) h =
    let (p, q) = both (is_get request) (is_same_op op' op) h in
    let (keys, same) = get_request request p in
    let same' = same_op op' op q in
    (proxy, keys, cc)

deleted : (key : List ℕ) (op : OpId) (request : Request) (delete : OpId) → delete_of_request key op request ≡ Some delete
    → (noreply : Bool) × (request ≡ Delete key noreply) × (op ≡ delete)
deleted key op (Get keys) delete h = cc
deleted key op (Set key' flags exptime block noreply) delete h = cc
deleted key op Quit delete h = cc
deleted key op (Delete key' noreply) delete h =
    elim (bytes_eq key' key) as (λ b. bytes_eq key' key ≡ b → cond b (Some op) None ≡ Some delete → (noreply' : Bool) × (Delete key' noreply ≡ Delete key noreply') × (op ≡ delete)) [
      | true ↦ λ e f. let same : key' ≡ key = (bytes_eq-Decides key' key).0 e in (noreply, ap (λ k. Delete k noreply) same, cc)
      | false ↦ λ e f. cc
    ] refl h

pub deleting_entry : (key : List ℕ) (entry : Entry) (delete : OpId) → issued_delete key entry ≡ Some delete
    → (proxy : ℕ) × (noreply : Bool) × (entry ≡ Issued delete proxy (Delete key noreply))
deleting_entry key (Stored by key' flags block) delete h = cc
deleting_entry key (Removed op' side key') delete h = cc
deleting_entry key (Answered op' reply) delete h = cc
deleting_entry key (Issued op proxy request) delete h =
    let (noreply, same, same') = deleted key op request delete h in
    (proxy, noreply, cc)

pub deleting_passes : (key : List ℕ) (delete : OpId) (proxy : ℕ) (noreply : Bool) → issued_delete key (Issued delete proxy (Delete key noreply)) ≡ Some delete
deleting_passes key delete proxy noreply = rw ((bytes_eq-Decides key key).1 refl) refl
