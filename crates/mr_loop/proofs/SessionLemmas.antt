-- The calls for one client of a node's loop come to one session.
use Rattle.std.proofs.Common.{◌≡◌, ◌∙◌, ℕ, ◌⊎◌, inl, inr, List, [], ◌∷◌, ◌++◌, drop, take, Bool, true, false, cond, Option, None, refl, sym, ap, subst, append_assoc}
use Rattle.std.specs.Prelude.{◌||◌, IsTrue}
use Rattle.std.proofs.lemmas.List.{append-nil, take-append-drop}
use Rattle.std.proofs.lemmas.Grind.{flat_map-append}
use Rattle.mr_text.specs.declared.reply.Reply.{Reply}
use Rattle.mr_node.specs.declared.ended.Ended.{Ended}
use Rattle.mr_node.specs.Output.{Exchange, ReadsExchanges, output_of, text_of_answer, text_of_exchange}
use Rattle.mr_loop.specs.declared.inbox.Inbox.{Inbox}
use Rattle.mr_loop.specs.declared.node.client.NodeClient.{NodeClient}
use Rattle.mr_loop.specs.declared.node.serving.NodePause.{NodePause}
use Rattle.mr_loop.specs.LoopView.{TakesPiece}
use Rattle.mr_loop.specs.node.Cache.{Does}
use Rattle.mr_loop.specs.node.NodeView.{fresh_node_client}
use Rattle.mr_loop.specs.node.Serving.{EndsThere, LeavesSo, IsOver, Seat, ServesOn, ServesSome, to_tell}
use Rattle.mr_loop.specs.node.NodeRuns.{Call, AsksByCalls, IsSession, Runs, exchanges_of, taken_of, with_inbox, after_reading}

-- texts of exchanges, one behind the other
reads_then : {bytes more : List ℕ} {first second : List Exchange} → ReadsExchanges bytes first → ReadsExchanges more second
    → ReadsExchanges (bytes ++ more) (first ++ second)
reads_then {bytes} {first = first} before ReadsExchanges.begins =
    subst (λ (b : List ℕ). ReadsExchanges b (first ++ [])) (sym (append-nil bytes))
    (subst (λ (e : List Exchange). ReadsExchanges bytes e) (sym (append-nil first)) before)
reads_then {bytes} {first = first} before (ReadsExchanges.reads {bytes = more} {exchanges = second} spelling exchange later spells) =
    subst (λ (b : List ℕ). ReadsExchanges b (first ++ (second ++ exchange ∷ []))) (append_assoc bytes more spelling)
    (subst (λ (e : List Exchange). ReadsExchanges ((bytes ++ more) ++ spelling) e) (append_assoc first second (exchange ∷ []))
    (ReadsExchanges.reads spelling exchange (reads_then before later) spells))

-- the exchanges of one more call
exchanges_more : (calls : List Call) (call : Call) → exchanges_of (calls ++ call ∷ []) ≡ exchanges_of calls ++ call.exchanges
exchanges_more calls call =
    flat_map-append (λ (c : Call). c.exchanges) calls (call ∷ []) ∙ ap (λ (e : List Exchange). exchanges_of calls ++ e) (append-nil call.exchanges)

-- no bytes are none, whether they are taken or not
no_bytes : (closed : Bool) (piece : List ℕ) → piece ≡ [] → [] ≡ cond closed [] piece
no_bytes true piece nothing = refl
no_bytes false piece nothing = sym nothing

-- what is left where a piece came
fed_kept : (piece : List ℕ) (old new : Inbox) → TakesPiece piece old new → new.reader.kept ≡ old.reader.kept ++ taken_of old piece
fed_kept piece old new (inl takes) =
    let goes : (old.reader.closed || old.reader.ended) ≡ false = rw (takes.1, takes.2) refl in
    takes.0.stands ∙ ap (λ (b : Bool). old.reader.kept ++ cond b [] piece) (sym goes)
fed_kept piece old new (inr takes) = takes.1.stands ∙ sym (append-nil old.reader.kept) ∙ ap (λ (t : List ℕ). old.reader.kept ++ t) (none_taken takes.0)
  where
    none_taken : IsTrue (old.reader.closed || old.reader.ended) ⊎ (piece ≡ []) → [] ≡ taken_of old piece
    none_taken (inl closed) = ap (λ (b : Bool). cond b [] piece) (sym closed)
    none_taken (inr nothing) = no_bytes (old.reader.closed || old.reader.ended) piece nothing

fed_done : (piece : List ℕ) (old new : Inbox) → TakesPiece piece old new → new.is_done ≡ old.is_done
fed_done piece old new (inl takes) = ap (λ (i : Inbox). i.is_done) takes.3
fed_done piece old new (inr takes) = ap (λ (i : Inbox). i.is_done) takes.2

module _ {C : Type 0} (does : Does C) (start : C) where
  left_open : (sent told : List ℕ) (at : Seat C) (is : IsSession does start sent told at) → at.client.inbox.is_done ≡ false
      → (at.client.inbox.reader.kept ≡ is.rest) × (is.answer ≡ None)
  left_open sent told at is is_open = by_left is.leaves
    where
      by_left : ((at.client.inbox.is_done ≡ false) × (at.client.inbox.reader.kept ≡ is.rest) × (is.answer ≡ None))
          ⊎ ((at.client.inbox.is_done ≡ true) × ((ended : Ended) × EndsThere at.client.inbox.has_ended is.rest ended is.answer))
          → (at.client.inbox.reader.kept ≡ is.rest) × (is.answer ≡ None)
      by_left (inl left) = (left.1, left.2)
      by_left (inr left) = (let shut = left.0 in let both : true ≡ false = sym shut ∙ is_open in cc)

  leaves_more : (old new : Inbox) (rest : List ℕ) (answer : Option Reply) → LeavesSo old new rest answer → new.has_ended ≡ old.has_ended
      → ((new.is_done ≡ false) × (new.reader.kept ≡ rest) × (answer ≡ None))
      ⊎ ((new.is_done ≡ true) × ((ended : Ended) × EndsThere new.has_ended rest ended answer))
  leaves_more old new rest answer (inl left) same = inl (left.0, left.1.stands, left.2)
  leaves_more old new rest answer (inr left) same =
      inr (left.0, (left.1.0, subst (λ (b : Bool). EndsThere b rest left.1.0 answer) (sym same) left.1.1))

  -- one more call, for which so many bytes were taken
  session_more : (sent heard piece : List ℕ) (before after : Seat C) (fed : Inbox) (reading most : ℕ) (pause : NodePause)
      → IsSession does start sent (heard ++ to_tell before.client) before → before.client.inbox.is_done ≡ false
      → fed.reader.kept ≡ before.client.inbox.reader.kept ++ piece → fed.is_done ≡ before.client.inbox.is_done
      → ServesOn does reading most pause (with_inbox fed before) after
      → IsSession does start (sent ++ piece) (heard ++ to_tell after.client) after
  session_more sent heard piece before after fed reading most pause is is_open kept same on = by_served on.serves
    where
      by_served : ServesSome does reading most (with_inbox fed before) after ⊎ IsOver (with_inbox fed before) after
          → IsSession does start (sent ++ piece) (heard ++ to_tell after.client) after
      by_served (inr over) = (let shut = over.over in let both : true ≡ false = sym shut ∙ same ∙ is_open in cc)
      by_served (inl some) =
          let left = left_open sent (heard ++ to_tell before.client) before is is_open in
          let call : Call = record { reading = reading; exchanges = some.exchanges } in
          let all : exchanges_of (is.calls ++ call ∷ []) ≡ exchanges_of is.calls ++ some.exchanges = exchanges_more is.calls call in
          let behind : fed.reader.kept ≡ is.rest ++ piece = kept ∙ ap (λ (r : List ℕ). r ++ piece) left.0 in
          let told : heard ++ to_tell before.client ≡ output_of (exchanges_of is.calls) =
          is.tells ∙ ap (λ (a : Option Reply). output_of (exchanges_of is.calls) ++ text_of_answer a) left.1
          ∙ append-nil (output_of (exchanges_of is.calls)) in
          record {
            calls = is.calls ++ call ∷ [];
            bytes = is.bytes ++ some.bytes;
            rest = some.rest;
            answer = some.answer;
            splits = ap (λ (s : List ℕ). s ++ piece) is.splits ∙ append_assoc is.bytes is.rest piece
                ∙ ap (λ (r : List ℕ). is.bytes ++ r) (sym behind ∙ some.splits) ∙ sym (append_assoc is.bytes some.bytes some.rest);
            reads = subst (λ (e : List Exchange). ReadsExchanges (is.bytes ++ some.bytes) e) (sym all) (reads_then is.reads some.reads);
            asks = AsksByCalls.calls call is.asks some.asks;
            tells = ap (λ (t : List ℕ). heard ++ t) some.tells
                ∙ sym (append_assoc heard (to_tell before.client) (output_of some.exchanges ++ text_of_answer some.answer))
                ∙ ap (λ (t : List ℕ). t ++ (output_of some.exchanges ++ text_of_answer some.answer)) told
                ∙ sym (append_assoc (output_of (exchanges_of is.calls)) (output_of some.exchanges) (text_of_answer some.answer))
                ∙ ap (λ (t : List ℕ). t ++ text_of_answer some.answer)
                (sym (flat_map-append text_of_exchange (exchanges_of is.calls) some.exchanges) ∙ ap output_of (sym all));
            leaves = leaves_more fed after.client.inbox some.rest some.answer some.leaves some.same_end;
          }

  -- what was read and what is left come to what was told
  session_heard : (sent heard : List ℕ) (count : ℕ) (before : Seat C) → IsSession does start sent (heard ++ to_tell before.client) before
      → IsSession does start sent ((heard ++ take count before.client.out) ++ to_tell (after_reading count before).client) (after_reading count before)
  session_heard sent heard count before is = record {
    calls = is.calls;
    bytes = is.bytes;
    rest = is.rest;
    answer = is.answer;
    splits = is.splits;
    reads = is.reads;
    asks = is.asks;
    tells = append_assoc heard (take count before.client.out) (drop count before.client.out ++ text_of_answer before.client.due)
        ∙ ap (λ (t : List ℕ). heard ++ t)
        (sym (append_assoc (take count before.client.out) (drop count before.client.out) (text_of_answer before.client.due))
        ∙ ap (λ (t : List ℕ). t ++ text_of_answer before.client.due) (take-append-drop count before.client.out))
        ∙ is.tells;
    leaves = is.leaves;
  }

-- a client that sent nothing yet
session_begins : {C : Type 0} (does : Does C) (start : Seat C) → start.client ≡ fresh_node_client
    → IsSession does start.cache [] ([] ++ to_tell start.client) start
session_begins does start fresh = record {
  calls = [];
  bytes = [];
  rest = [];
  answer = None;
  splits = refl;
  reads = ReadsExchanges.begins;
  asks = AsksByCalls.begins;
  tells = ap to_tell fresh;
  leaves = inl (ap (λ (c : NodeClient). c.inbox.is_done) fresh, ap (λ (c : NodeClient). c.inbox.reader.kept) fresh, refl);
}

-- the run of a client
pub one_session : {C : Type 0} (does : Does C) (most : ℕ) (start : Seat C) {sent heard : List ℕ} {end : Seat C}
    → start.client ≡ fresh_node_client → Runs does most start sent heard end
    → IsSession does start.cache sent (heard ++ to_tell end.client) end
one_session does most start fresh Runs.begins = session_begins does start fresh
one_session does most start fresh (Runs.comes {sent} {heard} {before} {after} reading piece fed pause run is_open takes on) =
    session_more does start.cache sent heard (taken_of before.client.inbox piece) before after fed reading most pause
    (one_session does most start fresh run) is_open (fed_kept piece before.client.inbox fed takes) (fed_done piece before.client.inbox fed takes) on
one_session does most start fresh (Runs.ends {sent} {heard} {before} {after} reading ended pause run is_open ends on) =
    let more : IsSession does start.cache (sent ++ []) (heard ++ to_tell after.client) after =
    session_more does start.cache sent heard [] before after ended reading most pause
    (one_session does most start fresh run) is_open (ends.reader.stands ∙ sym (append-nil before.client.inbox.reader.kept))
    (ap (λ (i : Inbox). i.is_done) ends.becomes) on in
    subst (λ (s : List ℕ). IsSession does start.cache s (heard ++ to_tell after.client) after) (append-nil sent) more
one_session does most start fresh (Runs.hears {sent} {heard} {before} count run) =
    session_heard does start.cache sent heard count before (one_session does most start fresh run)
