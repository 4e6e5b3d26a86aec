-- What a reply makes of the list of requests under way, and what becomes of the reply.
use Rattle.std.proofs.Common.{◌≡◌, ◌∙◌, ℕ, zero, suc, true, List, [], ◌∷◌, get_or, remove, slice_get, slice_set, Option, Some, None, Ok, unwrap_or, refl, sym, ap}
use Rattle.std.specs.Option.{option_and_then}
use Rattle.std.proofs.lemmas.Option.{slice_get_within, slice_get-get_or}
use Rattle.std.proofs.lemmas.List.Folds.{position_or_len-set}
use Rattle.mr_history.specs.OpIds.{is_same_op}
use Rattle.mr_join.specs.declared.leg_reply.LegReply.{LegReply}
use Rattle.mr_proxy.specs.declared.sheet.LegId.{LegId}
use Rattle.mr_proxy.specs.Pending.{PendingView, is_complete, with_reply}
use Rattle.mr_proxy.specs.Transitions.{place_of_op, pending_with}
use Rattle.mr_proxy.specs.steps.Noted.{noted_as}
use Rattle.mr_proxy.specs.steps.Outstanding.{noted_in, written_at, list_noted, settled_at, list_settled, settled_as}
use Rattle.mr_proxy.proofs.SoundLemmas.{noting_in}

op_by : (pending : PendingView) (place : ℕ) (reply : LegReply) (w : Option PendingView) → with_reply pending place reply ≡ w
    → (unwrap_or w pending).op ≡ pending.op
op_by pending place reply None e = refl
op_by pending place reply (Some n) e =
    ap (λ (x : PendingView). x.op) (noting_in pending n place reply (slice_get pending.slots place) refl e).is

-- a reply changes no name
pub noted_op : (pending : PendingView) (place : ℕ) (reply : LegReply) → (unwrap_or (with_reply pending place reply) pending).op ≡ pending.op
noted_op pending place reply = op_by pending place reply (with_reply pending place reply) refl

written_same : {X : Type 0} (list : List X) (n : ℕ) (x : X) → slice_get list n ≡ Some x → slice_set list n x ≡ list
written_same [] n x e = cc
written_same (y ∷ list) zero x e = let is : y ≡ x = cc in ap (λ z. z ∷ list) (sym is)
written_same (y ∷ list) (suc n) x e = ap (λ l. y ∷ l) (written_same list n x e)

remove_written : {X : Type 0} (list : List X) (n : ℕ) (x : X) → remove (slice_set list n x) n ≡ remove list n
remove_written [] zero x = refl
remove_written [] (suc n) x = refl
remove_written (y ∷ list) zero x = refl
remove_written (y ∷ list) (suc n) x = ap (λ l. y ∷ l) (remove_written list n x)

get_written : {X : Type 0} (list : List X) (n : ℕ) (x y : X) → slice_get list n ≡ Some y → slice_get (slice_set list n x) n ≡ Some x
get_written [] n x y e = cc
get_written (z ∷ list) zero x y e = refl
get_written (z ∷ list) (suc n) x y e = get_written list n x y e

written_by : (list : List PendingView) (place : ℕ) (pending : PendingView) (w : Option PendingView) → slice_get list place ≡ Some pending
    → slice_set list place (unwrap_or w pending) ≡ written_at list place w
written_by list place pending None got = written_same list place pending got
written_by list place pending (Some n) got = refl

noted_is : (list : List PendingView) (id : LegId) (pending : PendingView) (reply : LegReply) → pending_with list id.op ≡ Some pending
    → noted_in list id reply ≡ with_reply pending id.place reply
noted_is list id pending reply got = ap (option_and_then (λ (x : PendingView). with_reply x id.place reply)) got

-- what the request of a leg became, written at its place
pub written_is : (list : List PendingView) (id : LegId) (pending : PendingView) (reply : LegReply) → pending_with list id.op ≡ Some pending
    → slice_set list (place_of_op list id.op) (unwrap_or (with_reply pending id.place reply) pending) ≡ list_noted list id reply
written_is list id pending reply got =
    written_by list (place_of_op list id.op) pending (with_reply pending id.place reply) got
    ∙ ap (written_at list (place_of_op list id.op)) (sym (noted_is list id pending reply got))

-- a request whose last reply came: it is found as it then is, and leaves
pub record HasLast (list : List PendingView) (id : LegId) (reply : LegReply) : Type 0 where
  pub noted : PendingView
  pub found : pending_with (list_noted list id reply) id.op ≡ Some noted
  pub left : remove (list_noted list id reply) (place_of_op (list_noted list id reply) id.op) ≡ list_settled list id reply
  pub settled : Ok (Some noted) ≡ settled_as reply (noted_in list id reply)

last_in : (list : List PendingView) (id : LegId) (reply : LegReply) (pending n : PendingView) → pending_with list id.op ≡ Some pending
    → with_reply pending id.place reply ≡ Some n → is_complete n ≡ true → HasLast list id reply
last_in list id reply pending n got is complete =
    let place = place_of_op list id.op in
    let noting : noted_in list id reply ≡ Some n = noted_is list id pending reply got ∙ is in
    let written : list_noted list id reply ≡ slice_set list place n = ap (written_at list place) noting in
    let within = slice_get_within list place pending got in
    let read = slice_get-get_or list place pending within in
    let at : get_or list place pending ≡ pending = cc in
    let same : n.op ≡ pending.op =
    ap (λ (x : PendingView). x.op) (noting_in pending n id.place reply (slice_get pending.slots id.place) refl is).is in
    let alike : is_same_op n.op id.op ≡ is_same_op (get_or list place pending).op id.op =
    ap (λ o. is_same_op o id.op) same ∙ ap (λ (x : PendingView). is_same_op x.op id.op) (sym at) in
    let stays : place_of_op (slice_set list place n) id.op ≡ place =
    position_or_len-set (λ (x : PendingView). is_same_op x.op id.op) list place n pending alike in
    record {
      noted = n;
      found =
          ap (λ l. pending_with l id.op) written ∙ ap (slice_get (slice_set list place n)) stays ∙ get_written list place n pending got;
      left =
          ap (λ l. remove l (place_of_op l id.op)) written ∙ ap (remove (slice_set list place n)) stays ∙ remove_written list place n
          ∙ sym (ap (settled_at list place) noting ∙ left_by_complete list place n complete);
      settled = sym (ap (settled_as reply) noting ∙ settled_complete reply n complete);
    }
  where
    left_by_complete : (list : List PendingView) (place : ℕ) (n : PendingView) → is_complete n ≡ true → settled_at list place (Some n) ≡ remove list place
    left_by_complete list place n e = rw e

    settled_complete : (reply : LegReply) (n : PendingView) → is_complete n ≡ true → settled_as reply (Some n) ≡ Ok (Some n)
    settled_complete reply n e = rw e

last_noted : (list : List PendingView) (id : LegId) (reply : LegReply) (pending : PendingView) (w : Option PendingView) → pending_with list id.op ≡ Some pending
    → with_reply pending id.place reply ≡ w → Ok true ≡ noted_as reply w → HasLast list id reply
last_noted list id reply pending None got is e = cc
last_noted list id reply pending (Some n) got is e = let complete : is_complete n ≡ true = cc in last_in list id reply pending n got is complete

last_of : (list : List PendingView) (id : LegId) (reply : LegReply) (o : Option PendingView) → pending_with list id.op ≡ o
    → Ok true ≡ noted_as reply (option_and_then (λ (x : PendingView). with_reply x id.place reply) o) → HasLast list id reply
last_of list id reply None got e = cc
last_of list id reply (Some pending) got e = last_noted list id reply pending (with_reply pending id.place reply) got refl e

pub has_last : (list : List PendingView) (id : LegId) (reply : LegReply) → Ok true ≡ noted_as reply (noted_in list id reply) → HasLast list id reply
has_last list id reply e = last_of list id reply (pending_with list id.op) refl e
