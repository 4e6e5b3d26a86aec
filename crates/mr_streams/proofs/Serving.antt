-- What a node serves of a connection, whichever way it ends.
use Rattle.std.proofs.Common.{◌≡◌, ◌≢◌, ℕ, ◌⊎◌, inl, inr, true, false, List, [], ◌∷◌, ◌++◌, Option, None, flat_map, refl, sym, ap, ◌∙◌, subst, append_assoc}
use Rattle.std.proofs.lemmas.List.{append-nil}
use Rattle.mr_text.specs.Canonical.{canonical_reply}
use Rattle.mr_text.specs.Valid.{IsValidReply}
use Rattle.mr_text.specs.declared.reply.Reply.{Reply}
use Rattle.mr_history.specs.Places.{At}
use Rattle.mr_history.specs.declared.entry.Author.{Author}
use Rattle.mr_history.specs.declared.entry.Entry.{Entry}
use Rattle.mr_node.specs.Output.{output_of, text_of_answer}
use Rattle.mr_node.specs.Recency.{CacheView}
use Rattle.mr_loop.specs.declared.sent_legs.SentLeg.{SentLeg}
use Rattle.mr_loop.specs.node.Serving.{Seat, ServesSome, IsOver, to_tell}
use Rattle.mr_world.specs.WorldView.{WorldView}
use Rattle.mr_world.specs.declared.message.Delivery.{Delivery}
use Rattle.mr_world.specs.declared.message.Message.{Message}
use Rattle.mr_streams.specs.Entries.{stored_by, stored_in}
use Rattle.mr_streams.specs.Flows.{AreReplies, AreRequests, WasAnswered}
use Rattle.mr_streams.specs.Kept.{AreTellable}
use Rattle.mr_streams.specs.OneNode.{IsBusy, HasServed, holding}
use Rattle.mr_streams.specs.StreamsView.{node_does}
use Rattle.mr_streams.proofs.Delivering.{ServedAll, serve_all, serves_nothing, replies_still, replies_both}
use Rattle.mr_streams.proofs.Exchanges.{RequestLaws, IsLastWord, asks_all, spells_all, last_word}

pub empty_both : (xs ys : List ℕ) → xs ++ ys ≡ [] → (xs ≡ []) × (ys ≡ [])
empty_both [] ys e = (refl, e)
empty_both (x ∷ xs) ys e = absurd (let no : x ∷ (xs ++ ys) ≡ [] = e in cc)

-- the leg whose request stands first in bytes that are there
record HasFirst (legs : List SentLeg) : Type 0 where
  sent : SentLeg
  later : List SentLeg
  are : legs ≡ sent ∷ later

first_of_some : (messages : List Message) (node : ℕ) (legs : List SentLeg) (rest later : List ℕ) → AreRequests messages node legs (rest ++ later) → rest ≢ [] → HasFirst legs
first_of_some messages node [] rest later requests some = absurd (some (empty_both rest later requests.texts).0)
first_of_some messages node (sent ∷ legs) rest later requests some = record { sent = sent; later = legs; are = refl }

one_reply : (messages : List Message) (deliveries : List Delivery) (sent : SentLeg) (reply : Reply) → WasAnswered messages deliveries sent reply → IsValidReply reply
    → AreReplies messages deliveries (sent ∷ []) (canonical_reply reply)
one_reply messages deliveries sent reply was valid = (reply, [], was, valid, sym (append-nil (canonical_reply reply)), refl)

-- the output stands behind what was to be told
told_behind : (back old out last new : List ℕ) → new ≡ old ++ (out ++ last) → ((back ++ old) ++ out) ++ last ≡ back ++ new
told_behind back old out last new e =
    append_assoc (back ++ old) out last ∙ append_assoc back old (out ++ last) ∙ ap (λ x. back ++ x) (sym e)

module _ (messages : List Message) (deliveries : List Delivery) (w : WorldView) (number : ℕ) (name back later : List ℕ) (new : Seat CacheView) (returning going : List SentLeg) (heard heard' : List Entry) where
  -- no answer but the output
  quiet_end : (out told : List ℕ) (rest : List ℕ) (answer : Option Reply) → answer ≡ None
      → AreReplies messages deliveries returning (back ++ told) → to_tell new.client ≡ told ++ (out ++ text_of_answer answer)
      → (all : ServedAll messages deliveries w number name new.cache going out (rest ++ later) heard heard')
      → (new.client.inbox.is_done ≡ false → AreRequests messages number all.left (new.client.inbox.reader.kept ++ later))
      → HasServed messages deliveries w number name new returning going back later heard heard'
  quiet_end out told rest answer none replies tells all requests =
      let silent : text_of_answer answer ≡ [] = ap text_of_answer none in
      let texts : (back ++ told) ++ out ≡ back ++ to_tell new.client =
      sym (append-nil ((back ++ told) ++ out)) ∙ ap (λ x. ((back ++ told) ++ out) ++ x) (sym silent) ∙ told_behind back told out (text_of_answer answer) (to_tell new.client) tells in
      let both = replies_both messages (deliveries ++ all.so.more) returning all.answered (back ++ told) out
      (replies_still messages deliveries all.so.more returning (back ++ told) replies) all.replies in
      record {
        so = all.so;
        answered = all.answered;
        left = all.left;
        splits = all.splits;
        busy = record {
          replies = subst (λ b. AreReplies messages (deliveries ++ all.so.more) (returning ++ all.answered) b) texts both;
          requests = requests;
        };
        kept = all.kept;
      }

  -- an error is told of the leg whose request stands next
  last_end : (out told : List ℕ) (rest : List ℕ) (answer : Option Reply) → IsLastWord rest answer → new.client.inbox.is_done ≡ true
      → AreReplies messages deliveries returning (back ++ told) → to_tell new.client ≡ told ++ (out ++ text_of_answer answer)
      → (all : ServedAll messages deliveries w number name new.cache going out (rest ++ later) heard heard')
      → HasServed messages deliveries w number name new returning going back later heard heard'
  last_end out told rest answer word deaf replies tells all =
      let first = first_of_some messages number all.left rest later all.requests word.some in
      let d : List Delivery = deliveries ++ all.so.more in
      let one = one_reply messages d first.sent word.reply (inr word.error) word.valid in
      let answered : List SentLeg = all.answered ++ first.sent ∷ [] in
      let texts : ((back ++ told) ++ out) ++ canonical_reply word.reply ≡ back ++ to_tell new.client =
      ap (λ x. ((back ++ told) ++ out) ++ x) (sym (ap text_of_answer word.is)) ∙ told_behind back told out (text_of_answer answer) (to_tell new.client) tells in
      let both = replies_both messages d (returning ++ all.answered) (first.sent ∷ []) ((back ++ told) ++ out) (canonical_reply word.reply)
      (replies_both messages d returning all.answered (back ++ told) out (replies_still messages deliveries all.so.more returning (back ++ told) replies) all.replies) one in
      let legs : (returning ++ all.answered) ++ first.sent ∷ [] ≡ returning ++ answered = append_assoc returning all.answered (first.sent ∷ []) in
      record {
        so = all.so;
        answered = answered;
        left = first.later;
        splits = all.splits ∙ ap (λ l. all.answered ++ l) first.are ∙ sym (append_assoc all.answered (first.sent ∷ []) first.later);
        busy = record {
          replies = subst (λ l. AreReplies messages d l (back ++ to_tell new.client)) legs
              (subst (λ b. AreReplies messages d ((returning ++ all.answered) ++ first.sent ∷ []) b) texts both);
          requests = λ hears. absurd (let no : true ≡ false = sym deaf ∙ hears in cc);
        };
        kept = all.kept;
      }

some_served : RequestLaws → (by : Author) (messages : List Message) (deliveries : List Delivery) (w : WorldView) (number reading most : ℕ) (name back later : List ℕ) (old new : Seat CacheView)
    (returning going : List SentLeg) (heard : List Entry) (some : ServesSome node_does reading most old new)
    → w.sent ≡ messages → w.replies ≡ deliveries → At w.nodes number (holding name old.cache) → AreTellable old.cache.items
    → IsBusy messages deliveries number old.client.inbox.is_done returning going (back ++ to_tell old.client) (old.client.inbox.reader.kept ++ later)
    → HasServed messages deliveries w number name new returning going back later heard (heard ++ flat_map (stored_by by) some.exchanges)
some_served laws by messages deliveries w number reading most name back later old new returning going heard some ws wr there kept busy =
    let gains : List Entry = flat_map (stored_by by) some.exchanges in
    let cut = subst (λ b. AreRequests messages number going b) (ap (λ b. b ++ later) some.splits ∙ append_assoc some.bytes some.rest later) (busy.requests some.is_open) in
    let all = serve_all laws by some.exchanges messages deliveries w number reading name old.cache new.cache going some.bytes (some.rest ++ later) heard ws wr there kept
    (asks_all reading old.cache new.cache some.exchanges some.asks) (spells_all some.bytes some.exchanges some.reads) cut in
    let out : List ℕ = output_of some.exchanges in
    let told : List ℕ = to_tell old.client in
    elim some.leaves [
      | inl stays ↦ quiet_end messages deliveries w number name back later new returning going heard (heard ++ gains) out told some.rest some.answer stays.2 busy.replies some.tells all
          (λ hears. subst (λ k. AreRequests messages number all.left (k ++ later)) (sym stays.1.stands) all.requests)
      | inr over ↦ elim (last_word laws old.client.inbox.has_ended some.rest over.1.0 some.answer over.1.1) [
        | inl none ↦ quiet_end messages deliveries w number name back later new returning going heard (heard ++ gains) out told some.rest some.answer none busy.replies some.tells all
            (λ hears. absurd (let no : true ≡ false = sym over.0 ∙ hears in cc))
        | inr word ↦ last_end messages deliveries w number name back later new returning going heard (heard ++ gains) out told some.rest some.answer word over.0 busy.replies some.tells all
      ]
    ]

over_served : (messages : List Message) (deliveries : List Delivery) (w : WorldView) (number : ℕ) (name back later : List ℕ) (old new : Seat CacheView)
    (returning going : List SentLeg) (heard : List Entry) (over : IsOver old new)
    → At w.nodes number (holding name old.cache) → AreTellable old.cache.items
    → IsBusy messages deliveries number old.client.inbox.is_done returning going (back ++ to_tell old.client) (old.client.inbox.reader.kept ++ later)
    → HasServed messages deliveries w number name new returning going back later heard (heard ++ [])
over_served messages deliveries w number name back later old new returning going heard over there kept busy =
    let deaf : new.client.inbox.is_done ≡ true = ap (λ i. i.is_done) over.same_inbox ∙ over.over in
    record {
      so = serves_nothing w number name new.cache heard (heard ++ []) (subst (λ c. At w.nodes number (holding name c)) (sym over.same_cache) there) (append-nil heard);
      answered = [];
      left = going;
      splits = refl;
      busy = record {
        replies = subst (λ l. AreReplies messages (deliveries ++ []) l (back ++ to_tell new.client)) (sym (append-nil returning))
            (subst (λ t. AreReplies messages (deliveries ++ []) returning (back ++ t)) (sym over.same_told)
            (replies_still messages deliveries [] returning (back ++ to_tell old.client) busy.replies));
        requests = λ hears. absurd (let no : true ≡ false = sym deaf ∙ hears in cc);
      };
      kept = subst (λ c. AreTellable c.items) (sym over.same_cache) kept;
    }

-- whatever bytes come
pub served : RequestLaws → (by : Author) (messages : List Message) (deliveries : List Delivery) (w : WorldView) (number reading most : ℕ) (name back later : List ℕ) (old new : Seat CacheView)
    (returning going : List SentLeg) (heard : List Entry) (serves : ServesSome node_does reading most old new ⊎ IsOver old new)
    → w.sent ≡ messages → w.replies ≡ deliveries → At w.nodes number (holding name old.cache) → AreTellable old.cache.items
    → IsBusy messages deliveries number old.client.inbox.is_done returning going (back ++ to_tell old.client) (old.client.inbox.reader.kept ++ later)
    → HasServed messages deliveries w number name new returning going back later heard (heard ++ stored_in by serves)
served laws by messages deliveries w number reading most name back later old new returning going heard (inl some) ws wr there kept busy =
    some_served laws by messages deliveries w number reading most name back later old new returning going heard some ws wr there kept busy
served laws by messages deliveries w number reading most name back later old new returning going heard (inr over) ws wr there kept busy =
    over_served messages deliveries w number name back later old new returning going heard over there kept busy
