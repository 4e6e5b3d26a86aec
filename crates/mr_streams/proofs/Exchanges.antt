-- What a node reads of the requests of legs: the exchanges are those of the legs, in their order.
use Rattle.std.proofs.Common.{◌≡◌, ◌≢◌, ℕ, ◌⊎◌, inl, inr, List, [], ◌∷◌, ◌++◌, false, Bool, Option, Some, None, refl, sym, ap, ◌∙◌, subst, append_assoc}
use Rattle.std.specs.Prelude.{◌↔◌}
use Rattle.std.specs.List.{flat_map, AllByRecursion}
use Rattle.std.proofs.lemmas.List.{append-nil}
use Rattle.mr_text.specs.Canonical.{canonical_request, canonical_reply}
use Rattle.mr_text.specs.Requests.{SpellsRequest, RefusesRequest, SkipsLine}
use Rattle.mr_text.specs.Stream.{IsUnfinished, FaultAt}
use Rattle.mr_text.specs.Valid.{IsValidRequest, IsValidReply}
use Rattle.mr_text.specs.declared.error.TextError.{TextError}
use Rattle.mr_text.specs.declared.error.TextError.TheVariants.{LineTooLong, BadKey, BadNumber, WrongWords, DataTooLong, BadDataEnd, UnknownCommand, Truncated, Closed, OutOfMemory}
use Rattle.mr_text.specs.declared.reply.Reply.{Reply}
use Rattle.mr_text.specs.declared.request.Request.{Request}
use Rattle.mr_text.specs.declared.request.Request.TheVariants.{Quit}
use Rattle.mr_node.specs.Output.{Exchange, ReadsExchanges, SpellsExchange, text_of_exchange, reply_to_refusal}
use Rattle.mr_node.specs.Output.Exchange.{Asked, Unknown}
use Rattle.mr_node.specs.Recency.{CacheView}
use Rattle.mr_node.specs.declared.command.NodeCommand.{NodeCommand}
use Rattle.mr_node.specs.declared.command.NodeCommand.TheVariants.{Get, Set, Delete}
use Rattle.mr_node.specs.declared.ended.Ended.{Ended}
use Rattle.mr_node.specs.declared.ended.Ended.TheVariants as how
use Rattle.mr_proxy.specs.NodeRequests.{request_with}
use Rattle.mr_proxy.specs.declared.sheet.LegSheet.{LegSheet}
use Rattle.mr_loop.specs.Links.{text_of}
use Rattle.mr_loop.specs.declared.sent_legs.SentLeg.{SentLeg}
use Rattle.mr_loop.specs.node.Serving.{AsksOnce, AsksInOrder, EndsThere}
use Rattle.mr_streams.specs.Flows.{IsError, request_of}
use Rattle.mr_streams.specs.StreamsView.{node_does}
use Rattle.mr_streams.proofs.Spellings.{ArePrefixFree, one_spelling, some_bytes}

-- what is known of the texts of requests
pub record RequestLaws : Type 0 where
  pub free : ArePrefixFree SpellsRequest
  pub reads : (request : Request) → IsValidRequest request → SpellsRequest (canonical_request request) request
  pub unrefused : (bytes after : List ℕ) (request : Request) (refusal : TextError) → SpellsRequest bytes request → ¬ RefusesRequest refusal (bytes ++ after)
  pub skips : (bytes : List ℕ) → ((after : List ℕ) × SkipsLine bytes after) ↔ RefusesRequest (UnknownCommand false) bytes
  pub unfinished : IsUnfinished SpellsRequest RefusesRequest []

-- the steps of a cache, from the first on
abbrev pub AsksAll : ℕ → CacheView → List Exchange → CacheView → Type 0
AsksAll reading old [] new = new ≡ old
AsksAll reading old (exchange ∷ exchanges) new = (middle : CacheView) × AsksOnce node_does reading old exchange middle × AsksAll reading middle exchanges new

asks_behind : (reading : ℕ) (old between new : CacheView) (exchanges : List Exchange) (exchange : Exchange) → AsksAll reading old exchanges between
    → AsksOnce node_does reading between exchange new → AsksAll reading old (exchanges ++ exchange ∷ []) new
asks_behind reading old between new [] exchange all one = (new, subst (λ c. AsksOnce node_does reading c exchange new) all one, refl)
asks_behind reading old between new (first ∷ exchanges) exchange all one = (all.0, all.1, asks_behind reading all.0 between new exchanges exchange all.2 one)

pub asks_all : (reading : ℕ) (old new : CacheView) (exchanges : List Exchange) → AsksInOrder node_does reading old exchanges new → AsksAll reading old exchanges new
asks_all reading old new exchanges AsksInOrder.begins = refl
asks_all reading old new exchanges (AsksInOrder.asks {between = between} {exchanges = before} exchange earlier one) =
    asks_behind reading old between new before exchange (asks_all reading old between before earlier) one

-- the texts of exchanges, from the first on
abbrev pub SpellsAll : List ℕ → List Exchange → Type 0
SpellsAll bytes [] = bytes ≡ []
SpellsAll bytes (exchange ∷ exchanges) =
    (spelling : List ℕ) × (later : List ℕ) × SpellsExchange spelling exchange × (bytes ≡ spelling ++ later) × SpellsAll later exchanges

spells_behind : (bytes spelling : List ℕ) (exchanges : List Exchange) (exchange : Exchange) → SpellsAll bytes exchanges → SpellsExchange spelling exchange
    → SpellsAll (bytes ++ spelling) (exchanges ++ exchange ∷ [])
spells_behind bytes spelling [] exchange all one = (spelling, [], one, ap (λ b. b ++ spelling) all ∙ sym (append-nil spelling), refl)
spells_behind bytes spelling (first ∷ exchanges) exchange all one =
    (all.0, all.1 ++ spelling, all.2, ap (λ b. b ++ spelling) all.3 ∙ append_assoc all.0 all.1 spelling, spells_behind all.1 spelling exchanges exchange all.4 one)

pub spells_all : (bytes : List ℕ) (exchanges : List Exchange) → ReadsExchanges bytes exchanges → SpellsAll bytes exchanges
spells_all bytes exchanges ReadsExchanges.begins = refl
spells_all bytes exchanges (ReadsExchanges.reads {bytes = front} {exchanges = before} spelling exchange earlier one) =
    spells_behind front spelling before exchange (spells_all front before earlier) one

-- what is read first is the request of the first leg, where this holds for each leg
pub record IsFirst (Holds : SentLeg → Type 0) (legs : List SentLeg) (exchange : Exchange) (after : List ℕ) : Type 0 where
  pub sent : SentLeg
  pub later : List SentLeg
  pub told : Reply
  pub legs_are : legs ≡ sent ∷ later
  pub asks : exchange ≡ Asked (request_of sent) told
  pub texts : after ≡ flat_map text_of later
  pub holds : Holds sent
  pub all : AllByRecursion Holds later

no_skip : RequestLaws → (bytes x : List ℕ) → SpellsExchange bytes Unknown → RefusesRequest (UnknownCommand false) (bytes ++ x)
no_skip laws bytes x one = (laws.skips (bytes ++ x)).0 (x, record { words = one.0; line = bytes; splits = refl; is_line = one.1; unknown = one.2 })

-- so it is where each leg has a text that can be read
pub first_exchange : RequestLaws → (Holds : SentLeg → Type 0) → ((sent : SentLeg) → Holds sent → IsValidRequest (request_of sent))
    → (legs : List SentLeg) (exchange : Exchange) (spelling after : List ℕ)
    → SpellsExchange spelling exchange → spelling ++ after ≡ flat_map text_of legs → AllByRecursion Holds legs → IsFirst Holds legs exchange after
first_exchange laws Holds valid [] (Asked request told) spelling after one e all =
    let some : canonical_request Quit ≢ [] = λ h. cc in
    absurd (some_bytes SpellsRequest laws.free spelling (canonical_request Quit) after request Quit one.0 (laws.reads Quit tt) some e)
first_exchange laws Holds valid [] Unknown spelling after one e all =
    absurd (laws.unfinished.not_refused (UnknownCommand false) (subst (λ b. RefusesRequest (UnknownCommand false) b) e (no_skip laws spelling after one)))
first_exchange laws Holds valid (sent ∷ later) (Asked request told) spelling after one e all =
    let is = one_spelling SpellsRequest laws.free spelling (text_of sent) after (flat_map text_of later) request (request_of sent)
    one.0 (laws.reads (request_of sent) (valid sent all.0)) e in
    record { sent = sent; later = later; told = told; legs_are = refl; asks = ap (λ r. Asked r told) is.0; texts = is.1; holds = all.0; all = all.1 }
first_exchange laws Holds valid (sent ∷ later) Unknown spelling after one e all =
    absurd (laws.unrefused (text_of sent) (flat_map text_of later) (request_of sent) (UnknownCommand false)
    (laws.reads (request_of sent) (valid sent all.0))
    (subst (λ b. RefusesRequest (UnknownCommand false) b) e (no_skip laws spelling after one)))

-- what is written for the request of legs that travel together
pub text_told : (command : NodeCommand) (others : List LegSheet) (told : Reply) → text_of_exchange (Asked (request_with command others) told) ≡ canonical_reply told
text_told (Get key) others told = refl
text_told (Set key flags exptime block) others told = refl
text_told (Delete key) others told = refl

-- what is told where a client has ended: nothing, or an error for bytes that are there
pub record IsLastWord (rest : List ℕ) (answer : Option Reply) : Type 0 where
  pub reply : Reply
  pub is : answer ≡ Some reply
  pub error : IsError reply
  pub valid : IsValidReply reply
  pub some : rest ≢ []

refused_word : (refusal : TextError) (answer : Option Reply) (rest : List ℕ) → RequestLaws → FaultAt SpellsRequest RefusesRequest refusal rest → answer ≡ reply_to_refusal refusal
    → (answer ≡ None) ⊎ IsLastWord rest answer
refused_word LineTooLong answer rest laws fault is =
    inr (record { reply = _; is = is; error = tt; valid = tt; some = λ e. laws.unfinished.not_refused LineTooLong (subst (λ b. RefusesRequest LineTooLong b) e fault) })
refused_word BadKey answer rest laws fault is =
    inr (record { reply = _; is = is; error = tt; valid = tt; some = λ e. laws.unfinished.not_refused BadKey (subst (λ b. RefusesRequest BadKey b) e fault) })
refused_word BadNumber answer rest laws fault is =
    inr (record { reply = _; is = is; error = tt; valid = tt; some = λ e. laws.unfinished.not_refused BadNumber (subst (λ b. RefusesRequest BadNumber b) e fault) })
refused_word WrongWords answer rest laws fault is =
    inr (record { reply = _; is = is; error = tt; valid = tt; some = λ e. laws.unfinished.not_refused WrongWords (subst (λ b. RefusesRequest WrongWords b) e fault) })
refused_word DataTooLong answer rest laws fault is =
    inr (record { reply = _; is = is; error = tt; valid = tt; some = λ e. laws.unfinished.not_refused DataTooLong (subst (λ b. RefusesRequest DataTooLong b) e fault) })
refused_word BadDataEnd answer rest laws fault is =
    inr (record { reply = _; is = is; error = tt; valid = tt; some = λ e. laws.unfinished.not_refused BadDataEnd (subst (λ b. RefusesRequest BadDataEnd b) e fault) })
refused_word (UnknownCommand closes) answer rest laws fault is =
    inr (record { reply = _; is = is; error = tt; valid = tt; some = λ e. laws.unfinished.not_refused (UnknownCommand closes) (subst (λ b. RefusesRequest (UnknownCommand closes) b) e fault) })
refused_word Truncated answer rest laws fault is = inl is
refused_word Closed answer rest laws fault is = inl is
refused_word OutOfMemory answer rest laws fault is = inl is

pub last_word : RequestLaws → (has_ended : Bool) (rest : List ℕ) (ended : Ended) (answer : Option Reply) → EndsThere has_ended rest ended answer
    → (answer ≡ None) ⊎ IsLastWord rest answer
last_word laws has_ended rest how.Quit answer h = inl h.1
last_word laws has_ended rest how.Ended answer h = inl h.2
last_word laws has_ended rest (how.Refused number) answer h = refused_word h.0 answer rest laws h.1 h.5
