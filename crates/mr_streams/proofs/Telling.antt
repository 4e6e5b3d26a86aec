-- A history that is told of by a safe one is safe.
use Rattle.std.proofs.Common.{◌≡◌, ◌≢◌, ℕ, ◌<◌, ◌==◌, inl, inr, Bool, true, false, List, [], ◌∷◌, ◌++◌, length, if◌then◌else◌, refl, sym, subst, arith, eq-eqb, ne_eqb}
use Rattle.mr_text.specs.declared.cause.Cause.{Cause}
use Rattle.mr_text.specs.declared.reply.Reply.{Reply}
use Rattle.mr_text.specs.declared.reply.Reply.TheVariants.{Items, Stored as StoredReply, Deleted, NotFound, Error, ClientError, ServerError}
use Rattle.mr_text.specs.declared.request.Request.{Request}
use Rattle.mr_history.specs.History.{IsSafe}
use Rattle.mr_history.specs.Places.{At}
use Rattle.mr_history.specs.declared.entry.Author.{Author}
use Rattle.mr_history.specs.declared.entry.Entry.{Entry}
use Rattle.mr_history.specs.declared.entry.Entry.TheVariants.{Issued, Stored, Removed, Answered}
use Rattle.mr_history.specs.declared.op_id.OpId.{OpId}
use Rattle.mr_join.specs.Join.{Acknowledges}
use Rattle.mr_phases.specs.declared.side.Side.{Side}
use Rattle.mr_world.proofs.Lists.{at_within}
use Rattle.mr_streams.specs.Flows.{IsError}
use Rattle.mr_streams.specs.Refines.{Tells}
use Rattle.mr_streams.proofs.Lists.{at_last, at_left, at_new}

-- an issue at a place
abbrev IsIssue : List Entry → ℕ → Type 0
IsIssue history place = (op : OpId) × (proxy : ℕ) × (request : Request) × At history place (Issued op proxy request)

-- an answer at a place that is no error
abbrev IsReply : List Entry → ℕ → Type 0
IsReply history place = (op : OpId) × (reply : Reply) × At history place (Answered op reply) × (IsError reply → ⊥)

-- where an item that is stored in one history is stored in the other
record StoredThere (heard : List Entry) (to : ℕ → ℕ) (place key_place : ℕ) (key : List ℕ) (flags : ℕ) (block : List ℕ) : Type 0 where
  by : Author
  there : At heard key_place (Stored by key flags block)
  before : (answer : ℕ) → IsReply heard answer → place < to answer → key_place < answer
  after : (issue : ℕ) → IsIssue heard issue → to issue < place → issue < key_place

-- one history follows another: what it tells of an issue or an answer stands there, in an order that keeps what counts
record Follows (told heard : List Entry) : Type 0 where
  to : ℕ → ℕ
  issued : (place : ℕ) (op : OpId) (proxy : ℕ) (request : Request) → At heard place (Issued op proxy request) → At told (to place) (Issued op proxy request)
  answered : (place : ℕ) (op : OpId) (reply : Reply) → At heard place (Answered op reply) → (IsError reply → ⊥) → At told (to place) (Answered op reply)
  in_order : (answer issue : ℕ) → IsReply heard answer → IsIssue heard issue → answer < issue → to answer < to issue
  stored : (place : ℕ) (by : Author) (key : List ℕ) (flags : ℕ) (block : List ℕ) → At told place (Stored by key flags block)
      → (key_place : ℕ) × StoredThere heard to place key_place key flags block

acknowledges_fine : (reply : Reply) → Acknowledges reply → IsError reply → ⊥
acknowledges_fine (Items items) h e = e
acknowledges_fine StoredReply h e = e
acknowledges_fine Deleted h e = e
acknowledges_fine NotFound h e = e
acknowledges_fine Error h e = h
acknowledges_fine (ClientError cause) h e = h
acknowledges_fine (ServerError cause) h e = h

-- safety goes over
safe_follows : (told heard : List Entry) → Follows told heard → IsSafe told → IsSafe heard
safe_follows told heard f safe = λ get item issue answer index hit.
    let issued = f.issued issue get hit.issued.proxy _ hit.issued.there in
    let answered = f.answered answer get (Items hit.items) hit.answered (λ e. e) in
    let fresh = safe get item (f.to issue) (f.to answer) index (record {
      keys = hit.keys;
      items = hit.items;
      issued = record { proxy = hit.issued.proxy; there = issued };
      answered = answered;
      has = hit.has;
    }) in
    let there = f.stored fresh.place fresh.stored.by item.key item.flags item.block fresh.stored.there in
    record {
      place = there.0;
      stored = record { by = there.1.by; there = there.1.there };
      before = there.1.before answer (get, Items hit.items, hit.answered, (λ e. e)) fresh.before;
      after = λ delete start done acknowledged earlier. (
          let fine : IsError acknowledged.reply → ⊥ = acknowledges_fine acknowledged.reply acknowledged.acknowledges in
          let start_told = f.issued start delete acknowledged.issued.proxy _ acknowledged.issued.there in
          let done_told = f.answered done delete acknowledged.reply acknowledged.answered fine in
          let order = f.in_order done issue (delete, acknowledged.reply, acknowledged.answered, fine) (get, hit.issued.proxy, _, hit.issued.there) earlier in
          there.1.after start (delete, acknowledged.issued.proxy, _, acknowledged.issued.there)
          (fresh.after delete (f.to start) (f.to done) (record {
            noreply = acknowledged.noreply;
            reply = acknowledged.reply;
            issued = record { proxy = acknowledged.issued.proxy; there = start_told };
            answered = done_told;
            acknowledges = acknowledged.acknowledges;
          }) order));
    }

-- one more place leads there
abbrev extended : (ℕ → ℕ) → ℕ → ℕ → ℕ → ℕ
extended to last new place = if place == last then new else to place

extended_if : (b : Bool) (x y : ℕ) → b ≡ false → (if b then x else y) ≡ y
extended_if true x y e = absurd (let no : true ≡ false = e in cc)
extended_if false x y e = refl

extended_yes : (b : Bool) (x y : ℕ) → b ≡ true → (if b then x else y) ≡ x
extended_yes true x y e = refl
extended_yes false x y e = absurd (let no : false ≡ true = e in cc)

extended_old : (to : ℕ → ℕ) (last new place : ℕ) → place < last → extended to last new place ≡ to place
extended_old to last new place below = extended_if (place == last) new (to place) (ne_eqb place last (λ e. omega arith))

extended_new : (to : ℕ → ℕ) (last new place : ℕ) → place ≡ last → extended to last new place ≡ new
extended_new to last new place same = extended_yes (place == last) new (to place) (eq-eqb place last same)

follows_same : (history : List Entry) → Follows history history
follows_same history = record {
  to = λ place. place;
  issued = λ place op proxy request h. h;
  answered = λ place op reply h fine. h;
  in_order = λ answer issue a b l. l;
  stored = λ place by key flags block h. (place, record { by = by; there = h; before = λ answer a l. l; after = λ issue i l. l });
}

follows_issue : (told heard : List Entry) (op : OpId) (proxy : ℕ) (request : Request) → Follows told heard
    → Follows (told ++ Issued op proxy request ∷ []) (heard ++ Issued op proxy request ∷ [])
follows_issue told heard op proxy request f =
    let new : Entry = Issued op proxy request in
    let last : ℕ = length heard in
    let to : ℕ → ℕ = extended f.to last (length told) in
    let old : (place : ℕ) → place < last → to place ≡ f.to place = λ place below. extended_old f.to last (length told) place below in
    record {
      to = to;
      issued = λ place o n r h. elim (at_last heard new h) [
        | inl was ↦ subst (λ k. At (told ++ new ∷ []) k (Issued o n r)) (sym (old place (at_within was))) (at_left (new ∷ []) (f.issued place o n r was))
        | inr is ↦ subst (λ x. At (told ++ new ∷ []) (to place) x) (sym is.1)
            (subst (λ k. At (told ++ new ∷ []) k new) (sym (extended_new f.to last (length told) place is.0)) (at_new told new))
      ];
      answered = λ place o r h fine. elim (at_last heard new h) [
        | inl was ↦ subst (λ k. At (told ++ new ∷ []) k (Answered o r)) (sym (old place (at_within was))) (at_left (new ∷ []) (f.answered place o r was fine))
        | inr is ↦ absurd (let no : Answered o r ≡ Issued op proxy request = is.1 in cc)
      ];
      in_order = λ answer issue a i l. elim (at_last heard new a.2) [
        | inl was ↦ (
            let a_old : to answer ≡ f.to answer = old answer (at_within was) in
            let a_below : f.to answer < length told = at_within (f.answered answer a.0 a.1 was a.3) in
            elim (at_last heard new i.3) [
              | inl was_issue ↦ (
                  let i_old : to issue ≡ f.to issue = old issue (at_within was_issue) in
                  let order = f.in_order answer issue (a.0, a.1, was, a.3) (i.0, i.1, i.2, was_issue) l in
                  omega arith)
              | inr is ↦ (let i_new : to issue ≡ length told = extended_new f.to last (length told) issue is.0 in omega arith)
            ])
        | inr is ↦ absurd (let no : Answered a.0 a.1 ≡ Issued op proxy request = is.1 in cc)
      ];
      stored = λ place by key flags block h. elim (at_last told new h) [
        | inl was ↦ (
            let s = f.stored place by key flags block was in
            let below : s.0 < last = at_within s.1.there in (
              s.0,
              record {
                by = s.1.by;
                there = at_left (new ∷ []) s.1.there;
                before = λ answer a l. elim (at_last heard new a.2) [
                  | inl was_answer ↦ s.1.before answer (a.0, a.1, was_answer, a.3) (let a_old : to answer ≡ f.to answer = old answer (at_within was_answer) in omega arith)
                  | inr is ↦ absurd (let no : Answered a.0 a.1 ≡ Issued op proxy request = is.1 in cc)
                ];
                after = λ issue i l. elim (at_last heard new i.3) [
                  | inl was_issue ↦ s.1.after issue (i.0, i.1, i.2, was_issue) (let i_old : to issue ≡ f.to issue = old issue (at_within was_issue) in omega arith)
                  | inr is ↦ absurd (
                      let i_new : to issue ≡ length told = extended_new f.to last (length told) issue is.0 in
                      let place_below : place < length told = at_within was in
                      omega arith)
                ];
              },
            ))
        | inr is ↦ absurd (let no : Stored by key flags block ≡ Issued op proxy request = is.1 in cc)
      ];
    }

follows_stored : (told heard : List Entry) (by other : Author) (key : List ℕ) (flags : ℕ) (block : List ℕ) → Follows told heard
    → Follows (told ++ Stored by key flags block ∷ []) (heard ++ Stored other key flags block ∷ [])
follows_stored told heard by other key flags block f =
    let new : Entry = Stored by key flags block in
    let heard_new : Entry = Stored other key flags block in
    record {
      to = f.to;
      issued = λ place o n r h. elim (at_last heard heard_new h) [
        | inl was ↦ at_left (new ∷ []) (f.issued place o n r was)
        | inr is ↦ absurd (let no : Issued o n r ≡ Stored other key flags block = is.1 in cc)
      ];
      answered = λ place o r h fine. elim (at_last heard heard_new h) [
        | inl was ↦ at_left (new ∷ []) (f.answered place o r was fine)
        | inr is ↦ absurd (let no : Answered o r ≡ Stored other key flags block = is.1 in cc)
      ];
      in_order = λ answer issue a i l. elim (at_last heard heard_new a.2) [
        | inl was ↦ elim (at_last heard heard_new i.3) [
          | inl was_issue ↦ f.in_order answer issue (a.0, a.1, was, a.3) (i.0, i.1, i.2, was_issue) l
          | inr is ↦ absurd (let no : Issued i.0 i.1 i.2 ≡ Stored other key flags block = is.1 in cc)
        ]
        | inr is ↦ absurd (let no : Answered a.0 a.1 ≡ Stored other key flags block = is.1 in cc)
      ];
      stored = λ place b k g d h. elim (at_last told new h) [
        | inl was ↦ (
            let s = f.stored place b k g d was in (
              s.0,
              record {
                by = s.1.by;
                there = at_left (heard_new ∷ []) s.1.there;
                before = λ answer a l. elim (at_last heard heard_new a.2) [
                  | inl was_answer ↦ s.1.before answer (a.0, a.1, was_answer, a.3) l
                  | inr is ↦ absurd (let no : Answered a.0 a.1 ≡ Stored other key flags block = is.1 in cc)
                ];
                after = λ issue i l. elim (at_last heard heard_new i.3) [
                  | inl was_issue ↦ s.1.after issue (i.0, i.1, i.2, was_issue) l
                  | inr is ↦ absurd (let no : Issued i.0 i.1 i.2 ≡ Stored other key flags block = is.1 in cc)
                ];
              },
            ))
        | inr is ↦ (
            let same : Stored b k g d ≡ Stored by key flags block = is.1 in
            let same_key : k ≡ key = cc in
            let same_flags : g ≡ flags = cc in
            let same_block : d ≡ block = cc in
            let there : At (heard ++ heard_new ∷ []) (length heard) (Stored other k g d) =
            subst (λ x. At (heard ++ heard_new ∷ []) (length heard) (Stored other x g d)) (sym same_key)
            (subst (λ x. At (heard ++ heard_new ∷ []) (length heard) (Stored other key x d)) (sym same_flags)
            (subst (λ x. At (heard ++ heard_new ∷ []) (length heard) (Stored other key flags x)) (sym same_block) (at_new heard heard_new))) in (
              length heard,
              record {
                by = other;
                there = there;
                before = λ answer a l. elim (at_last heard heard_new a.2) [
                  | inl was_answer ↦ absurd (let below : f.to answer < length told = at_within (f.answered answer a.0 a.1 was_answer a.3) in let last = is.0 in omega arith)
                  | inr wrong ↦ absurd (let never : Answered a.0 a.1 ≡ Stored other key flags block = wrong.1 in cc)
                ];
                after = λ issue i l. elim (at_last heard heard_new i.3) [
                  | inl was_issue ↦ at_within was_issue
                  | inr wrong ↦ absurd (let never : Issued i.0 i.1 i.2 ≡ Stored other key flags block = wrong.1 in cc)
                ];
              },
            ))
      ];
    }

-- one more that the other doesn't tell
follows_more : (told heard : List Entry) (new : Entry) → ((by : Author) (key : List ℕ) (flags : ℕ) (block : List ℕ) → Stored by key flags block ≢ new) → Follows told heard
    → Follows (told ++ new ∷ []) heard
follows_more told heard new other f = record {
  to = f.to;
  issued = λ place o n r h. at_left (new ∷ []) (f.issued place o n r h);
  answered = λ place o r h fine. at_left (new ∷ []) (f.answered place o r h fine);
  in_order = f.in_order;
  stored = λ place b k g d h. elim (at_last told new h) [
    | inl was ↦ f.stored place b k g d was
    | inr is ↦ absurd (other b k g d is.1)
  ];
}

follows_answer : (told heard : List Entry) (op : OpId) (reply : Reply) (from : ℕ) → At told from (Answered op reply) → Follows told heard → Follows told (heard ++ Answered op reply ∷ [])
follows_answer told heard op reply from there f =
    let new : Entry = Answered op reply in
    let last : ℕ = length heard in
    let to : ℕ → ℕ = extended f.to last from in
    let old : (place : ℕ) → place < last → to place ≡ f.to place = λ place below. extended_old f.to last from place below in
    record {
      to = to;
      issued = λ place o n r h. elim (at_last heard new h) [
        | inl was ↦ subst (λ k. At told k (Issued o n r)) (sym (old place (at_within was))) (f.issued place o n r was)
        | inr is ↦ absurd (let no : Issued o n r ≡ Answered op reply = is.1 in cc)
      ];
      answered = λ place o r h fine. elim (at_last heard new h) [
        | inl was ↦ subst (λ k. At told k (Answered o r)) (sym (old place (at_within was))) (f.answered place o r was fine)
        | inr is ↦ subst (λ x. At told (to place) x) (sym is.1) (subst (λ k. At told k new) (sym (extended_new f.to last from place is.0)) there)
      ];
      in_order = λ answer issue a i l. elim (at_last heard new i.3) [
        | inl was_issue ↦ (
            let i_below : issue < last = at_within was_issue in
            let i_old : to issue ≡ f.to issue = old issue i_below in
            elim (at_last heard new a.2) [
              | inl was ↦ (
                  let a_old : to answer ≡ f.to answer = old answer (at_within was) in
                  let order = f.in_order answer issue (a.0, a.1, was, a.3) (i.0, i.1, i.2, was_issue) l in
                  omega arith)
              | inr is ↦ absurd (let late = is.0 in omega arith)
            ])
        | inr is ↦ absurd (let no : Issued i.0 i.1 i.2 ≡ Answered op reply = is.1 in cc)
      ];
      stored = λ place b k g d h. (
          let s = f.stored place b k g d h in
          let below : s.0 < last = at_within s.1.there in (
            s.0,
            record {
              by = s.1.by;
              there = at_left (new ∷ []) s.1.there;
              before = λ answer a l. elim (at_last heard new a.2) [
                | inl was_answer ↦ s.1.before answer (a.0, a.1, was_answer, a.3) (let a_old : to answer ≡ f.to answer = old answer (at_within was_answer) in omega arith)
                | inr is ↦ (let late = is.0 in omega arith)
              ];
              after = λ issue i l. elim (at_last heard new i.3) [
                | inl was_issue ↦ s.1.after issue (i.0, i.1, i.2, was_issue) (let i_old : to issue ≡ f.to issue = old issue (at_within was_issue) in omega arith)
                | inr is ↦ absurd (let no : Issued i.0 i.1 i.2 ≡ Answered op reply = is.1 in cc)
              ];
            },
          ));
    }

-- an answer that is an error is told of nowhere
follows_error : (told heard : List Entry) (op : OpId) (cause : Cause) → Follows told heard → Follows told (heard ++ Answered op (ServerError cause) ∷ [])
follows_error told heard op cause f =
    let new : Entry = Answered op (ServerError cause) in
    let never : (o : OpId) (r : Reply) → Answered o r ≡ new → (IsError r → ⊥) → ⊥ = λ o r e fine. (let same : r ≡ ServerError cause = cc in fine (subst IsError (sym same) tt)) in
    record {
      to = f.to;
      issued = λ place o n r h. elim (at_last heard new h) [
        | inl was ↦ f.issued place o n r was
        | inr is ↦ absurd (let no : Issued o n r ≡ Answered op (ServerError cause) = is.1 in cc)
      ];
      answered = λ place o r h fine. elim (at_last heard new h) [
        | inl was ↦ f.answered place o r was fine
        | inr is ↦ absurd (never o r is.1 fine)
      ];
      in_order = λ answer issue a i l. elim (at_last heard new a.2) [
        | inl was ↦ elim (at_last heard new i.3) [
          | inl was_issue ↦ f.in_order answer issue (a.0, a.1, was, a.3) (i.0, i.1, i.2, was_issue) l
          | inr is ↦ absurd (let no : Issued i.0 i.1 i.2 ≡ Answered op (ServerError cause) = is.1 in cc)
        ]
        | inr is ↦ absurd (never a.0 a.1 is.1 a.3)
      ];
      stored = λ place b k g d h. (
          let s = f.stored place b k g d h in (
            s.0,
            record {
              by = s.1.by;
              there = at_left (new ∷ []) s.1.there;
              before = λ answer a l. elim (at_last heard new a.2) [
                | inl was_answer ↦ s.1.before answer (a.0, a.1, was_answer, a.3) l
                | inr is ↦ absurd (never a.0 a.1 is.1 a.3)
              ];
              after = λ issue i l. elim (at_last heard new i.3) [
                | inl was_issue ↦ s.1.after issue (i.0, i.1, i.2, was_issue) l
                | inr is ↦ absurd (let no : Issued i.0 i.1 i.2 ≡ Answered op (ServerError cause) = is.1 in cc)
              ];
            },
          ));
    }

-- the other tells of a removal, which nothing rests on
follows_removed : (told heard : List Entry) (op : OpId) (side : Side) (key : List ℕ) → Follows told heard → Follows told (heard ++ Removed op side key ∷ [])
follows_removed told heard op side key f =
    let new : Entry = Removed op side key in
    record {
      to = f.to;
      issued = λ place o n r h. elim (at_last heard new h) [
        | inl was ↦ f.issued place o n r was
        | inr is ↦ absurd (let never : Issued o n r ≡ Removed op side key = is.1 in cc)
      ];
      answered = λ place o r h fine. elim (at_last heard new h) [
        | inl was ↦ f.answered place o r was fine
        | inr is ↦ absurd (let never : Answered o r ≡ Removed op side key = is.1 in cc)
      ];
      in_order = λ answer issue a i l. elim (at_last heard new a.2) [
        | inl was ↦ elim (at_last heard new i.3) [
          | inl was_issue ↦ f.in_order answer issue (a.0, a.1, was, a.3) (i.0, i.1, i.2, was_issue) l
          | inr is ↦ absurd (let never : Issued i.0 i.1 i.2 ≡ Removed op side key = is.1 in cc)
        ]
        | inr is ↦ absurd (let never : Answered a.0 a.1 ≡ Removed op side key = is.1 in cc)
      ];
      stored = λ place b k g d h. (
          let s = f.stored place b k g d h in (
            s.0,
            record {
              by = s.1.by;
              there = at_left (new ∷ []) s.1.there;
              before = λ answer a l. elim (at_last heard new a.2) [
                | inl was_answer ↦ s.1.before answer (a.0, a.1, was_answer, a.3) l
                | inr is ↦ absurd (let never : Answered a.0 a.1 ≡ Removed op side key = is.1 in cc)
              ];
              after = λ issue i l. elim (at_last heard new i.3) [
                | inl was_issue ↦ s.1.after issue (i.0, i.1, i.2, was_issue) l
                | inr is ↦ absurd (let never : Issued i.0 i.1 i.2 ≡ Removed op side key = is.1 in cc)
              ];
            },
          ));
    }

follows_told : (told heard : List Entry) → Tells told heard → Follows told heard
follows_told told heard (Tells.begins history) = follows_same history
follows_told told heard (Tells.issues {told = t} {heard = h} op proxy request tells) = follows_issue t h op proxy request (follows_told t h tells)
follows_told told heard (Tells.stores {told = t} {heard = h} by other key flags block tells) = follows_stored t h by other key flags block (follows_told t h tells)
follows_told told heard (Tells.removes {told = t} {heard = h} op side key tells) =
    follows_more t h (Removed op side key) (λ b k g d e. cc) (follows_told t h tells)
follows_told told heard (Tells.removed {told = t} {heard = h} op side key tells) = follows_removed t h op side key (follows_told t h tells)
follows_told told heard (Tells.knows {told = t} {heard = h} op reply tells) =
    follows_more t h (Answered op reply) (λ b k g d e. cc) (follows_told t h tells)
follows_told told heard (Tells.answers {told = t} {heard = h} op reply tells has) = follows_answer t h op reply has.place has.there (follows_told t h tells)
follows_told told heard (Tells.errs {told = t} {heard = h} op cause tells) = follows_error t h op cause (follows_told t h tells)

-- what a safe history tells of is safe
pub told_safe : (told heard : List Entry) → Tells told heard → IsSafe told → IsSafe heard
told_safe told heard tells safe = safe_follows told heard (follows_told told heard tells) safe
