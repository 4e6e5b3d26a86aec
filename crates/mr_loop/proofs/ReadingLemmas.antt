-- Bytes that are read out are the text of one list of requests.
use Rattle.std.proofs.Common.{◌≡◌, ◌∙◌, ℕ, ◌<◌, ◌⊎◌, inl, inr, List, [], ◌∷◌, ◌++◌, length, Bool, true, false, Option, Some, None, get_or, refl, sym, ap, subst, append_assoc, length-append, arith}
use Rattle.std.specs.Prelude.{map}
use Rattle.std.proofs.lemmas.List.{append-nil, get_or_append_left, get_or_at}
use Rattle.mr_text.specs.Text.{IsLine}
use Rattle.mr_text.specs.Requests.{SpellsRequest, RefusesRequest}
use Rattle.mr_text.specs.Stream.{BeginsWith, IsUnfinished, FaultAt, skips_line}
use Rattle.mr_text.specs.declared.error.TextError.{TextError}
use Rattle.mr_text.specs.declared.error.TextError.TheVariants.{LineTooLong, BadKey, BadNumber, WrongWords, DataTooLong, BadDataEnd, UnknownCommand, Truncated, Closed, OutOfMemory}
use Rattle.mr_text.specs.declared.reply.Reply.{Reply}
use Rattle.mr_text.specs.declared.request.Request.{Request}
use Rattle.mr_text.specs.declared.request.Request.TheVariants.{Quit}
use Rattle.mr_node.specs.declared.ended.Ended.{Ended}
use Rattle.mr_node.specs.declared.ended.Ended.TheVariants as how
use Rattle.mr_node.specs.Output.{Exchange, IsServed, ReadsExchanges, SpellsExchange}
use Rattle.mr_node.specs.Output.Exchange.{Asked, Unknown}
use Rattle.mr_node.specs.Session.{EndsSo}
use Rattle.mr_loop.specs.node.Cache.{Does}
use Rattle.mr_loop.specs.node.NodeRuns.{asked_of, exchanges_of, IsReadOut, SessionsAskTheSame}
use Rattle.mr_loop.specs.node.Serving.{EndsThere}

-- no request's spelling is a proper prefix of another's
abbrev pub ArePrefixFree : Type 0
ArePrefixFree = (bytes after : List ℕ) (request other : Request)
    → SpellsRequest bytes request → SpellsRequest (bytes ++ after) other → (after ≡ []) × (request ≡ other)

-- what begins with a request is refused nothing
abbrev pub AreNotRefused : Type 0
AreNotRefused = (bytes after : List ℕ) (request : Request) (refusal : TextError)
    → SpellsRequest bytes request → ¬ RefusesRequest refusal (bytes ++ after)

-- no bytes get two refusals
abbrev pub HaveOneRefusal : Type 0
HaveOneRefusal = (bytes : List ℕ) (refusal other : TextError) → RefusesRequest refusal bytes → RefusesRequest other bytes → refusal ≡ other

-- of two cuts of the same bytes one is the earlier
abbrev IsCut : List ℕ → List ℕ → List ℕ → List ℕ → Type 0
IsCut xs ys zs ws = (t : List ℕ) × (zs ≡ xs ++ t) × (ys ≡ t ++ ws)

cut_later : (x z : ℕ) (xs ys zs ws : List ℕ) → x ≡ z → IsCut xs ys zs ws → IsCut (x ∷ xs) ys (z ∷ zs) ws
cut_later x z xs ys zs ws same (t, is, left) = (t, ap (λ n. n ∷ zs) (sym same) ∙ ap (λ (l : List ℕ). x ∷ l) is, left)

cut : (xs ys zs ws : List ℕ) → xs ++ ys ≡ zs ++ ws → IsCut xs ys zs ws ⊎ IsCut zs ws xs ys
cut [] ys zs ws same = inl (zs, refl, same)
cut (x ∷ xs) ys [] ws same = inr (x ∷ xs, refl, sym same)
cut (x ∷ xs) ys (z ∷ zs) ws same =
    let first : x ≡ z = cc in
    let later : xs ++ ys ≡ zs ++ ws = cc in
    elim (cut xs ys zs ws later) [ inl one ↦ inl (cut_later x z xs ys zs ws first one) | inr one ↦ inr (cut_later z x zs ws xs ys (sym first) one) ]

-- a line ends at its first line feed
line_alone : (bytes after line other : List ℕ) → IsLine bytes line → IsLine (bytes ++ after) other → after ≡ []
line_alone bytes [] line other first second = refl
line_alone bytes (x ∷ after) line other first second =
    let same : second.raw ++ 10 ∷ [] ≡ (first.raw ++ 10 ∷ []) ++ (x ∷ after) = sym second.ends ∙ ap (λ (b : List ℕ). b ++ (x ∷ after)) first.ends in
    let long = ap length same in
    let one = length-append second.raw (10 ∷ []) in
    let two = length-append (first.raw ++ 10 ∷ []) (x ∷ after) in
    let three = length-append first.raw (10 ∷ []) in
    let within : length first.raw < length second.raw = omega arith in
    let inside : length first.raw < length (first.raw ++ 10 ∷ []) = omega arith in
    let at : get_or second.raw (length first.raw) 10 ≡ 10 =
    sym (get_or_append_left second.raw (10 ∷ []) 10 (length first.raw) within) ∙ ap (λ (l : List ℕ). get_or l (length first.raw) 10) same
    ∙ get_or_append_left (first.raw ++ 10 ∷ []) (x ∷ after) 10 (length first.raw) inside ∙ get_or_at first.raw 10 [] 10 (length first.raw) refl in
    absurd (second.only_end (length first.raw, within, at))

module _ (free : ArePrefixFree) (not : AreNotRefused) where
  -- no exchange's spelling is a proper prefix of another's
  exchange_free : (bytes after : List ℕ) (exchange other : Exchange) → SpellsExchange bytes exchange → SpellsExchange (bytes ++ after) other
      → (after ≡ []) × (asked_of exchange ≡ asked_of other)
  exchange_free bytes after (Asked request told) (Asked other said) first second =
      let one = free bytes after request other first.0 second.0 in (one.0, ap (λ (r : Request). Some r) one.1)
  exchange_free bytes after (Asked request told) Unknown first second =
      absurd (not bytes after request (UnknownCommand false) first.0
      (second.0, record { line = bytes ++ after; after = []; splits = sym (append-nil (bytes ++ after)); is_line = second.1 }, second.2))
  exchange_free bytes after Unknown (Asked other said) first second =
      absurd (not (bytes ++ after) [] other (UnknownCommand false) second.0
      (first.0, record { line = bytes; after = after; splits = append-nil (bytes ++ after); is_line = first.1 }, first.2))
  exchange_free bytes after Unknown Unknown first second =
      (line_alone bytes after first.1.line second.1.line first.1.is_line second.1.is_line, refl)

  -- the exchanges at the front of the same bytes are of one request, and leave the same
  first_alike : (bytes left bytes' left' : List ℕ) (exchange other : Exchange) → bytes ++ left ≡ bytes' ++ left'
      → SpellsExchange bytes exchange → SpellsExchange bytes' other → (left ≡ left') × (asked_of exchange ≡ asked_of other)
  first_alike bytes left bytes' left' exchange other same first second = by_cut (cut bytes left bytes' left' same)
    where
      by_cut : IsCut bytes left bytes' left' ⊎ IsCut bytes' left' bytes left → (left ≡ left') × (asked_of exchange ≡ asked_of other)
      by_cut (inl (t, is, behind)) =
          let one = exchange_free bytes t exchange other first (subst (λ (b : List ℕ). SpellsExchange b other) is second) in
          (behind ∙ ap (λ (x : List ℕ). x ++ left') one.0, one.1)
      by_cut (inr (t, is, behind)) =
          let one = exchange_free bytes' t other exchange second (subst (λ (b : List ℕ). SpellsExchange b exchange) is first) in
          (sym (behind ∙ ap (λ (x : List ℕ). x ++ left) one.0), sym one.1)

-- exchanges in the order in which they stand
data ReadsOnward : List ℕ → List Exchange → Type 0 where
  stops : ReadsOnward [] []
  reads : {bytes : List ℕ} {exchanges : List Exchange} (spelling : List ℕ) (exchange : Exchange)
      → SpellsExchange spelling exchange → ReadsOnward bytes exchanges → ReadsOnward (spelling ++ bytes) (exchange ∷ exchanges)

onward_more : {bytes : List ℕ} {exchanges : List Exchange} (spelling : List ℕ) (exchange : Exchange) → ReadsOnward bytes exchanges
    → SpellsExchange spelling exchange → ReadsOnward (bytes ++ spelling) (exchanges ++ exchange ∷ [])
onward_more spelling exchange ReadsOnward.stops spells =
    subst (λ (b : List ℕ). ReadsOnward b (exchange ∷ [])) (append-nil spelling) (ReadsOnward.reads spelling exchange spells ReadsOnward.stops)
onward_more spelling exchange (ReadsOnward.reads {bytes} {exchanges} first it is later) spells =
    subst (λ (b : List ℕ). ReadsOnward b (it ∷ (exchanges ++ exchange ∷ []))) (sym (append_assoc first bytes spelling))
    (ReadsOnward.reads first it is (onward_more spelling exchange later spells))

onward : {bytes : List ℕ} {exchanges : List Exchange} → ReadsExchanges bytes exchanges → ReadsOnward bytes exchanges
onward ReadsExchanges.begins = ReadsOnward.stops
onward (ReadsExchanges.reads spelling exchange before spells) = onward_more spelling exchange (onward before) spells

module _ (free : ArePrefixFree) (not : AreNotRefused) where
  alike : {bytes bytes' : List ℕ} {exchanges exchanges' : List Exchange} (rest rest' : List ℕ) → ReadsOnward bytes exchanges
      → ReadsOnward bytes' exchanges' → bytes ++ rest ≡ bytes' ++ rest' → IsReadOut rest → IsReadOut rest'
      → (rest ≡ rest') × (map asked_of exchanges ≡ map asked_of exchanges')
  alike rest rest' ReadsOnward.stops ReadsOnward.stops same out out' = (same, refl)
  alike rest rest' ReadsOnward.stops (ReadsOnward.reads {bytes} spelling exchange spells later) same out out' =
      absurd (out spelling (bytes ++ rest') exchange (same ∙ append_assoc spelling bytes rest') spells)
  alike rest rest' (ReadsOnward.reads {bytes} spelling exchange spells later) ReadsOnward.stops same out out' =
      absurd (out' spelling (bytes ++ rest) exchange (sym same ∙ append_assoc spelling bytes rest) spells)
  alike rest rest' (ReadsOnward.reads {bytes} {exchanges} spelling exchange spells later)
      (ReadsOnward.reads {bytes = bytes'} {exchanges = exchanges'} spelling' exchange' spells' later') same out out' =
      let first = first_alike free not spelling (bytes ++ rest) spelling' (bytes' ++ rest') exchange exchange'
      (sym (append_assoc spelling bytes rest) ∙ same ∙ append_assoc spelling' bytes' rest') spells spells' in
      let others = alike rest rest' later later' first.0 out out' in
      (others.0, ap (λ (o : Option Request). o ∷ map asked_of exchanges) first.1 ∙ ap (λ (l : List (Option Request)). asked_of exchange' ∷ l) others.1)

  -- bytes that are read out are the text of one list of requests
  pub read_alike : (bytes rest bytes' rest' : List ℕ) (exchanges exchanges' : List Exchange) → bytes ++ rest ≡ bytes' ++ rest'
      → ReadsExchanges bytes exchanges → ReadsExchanges bytes' exchanges' → IsReadOut rest → IsReadOut rest'
      → (rest ≡ rest') × (map asked_of exchanges ≡ map asked_of exchanges')
  read_alike bytes rest bytes' rest' exchanges exchanges' same first second out out' = alike rest rest' (onward first) (onward second) same out out'

-- bytes that hold neither a request nor a refusal are read out
pub unfinished_out : (rest : List ℕ) → IsUnfinished SpellsRequest RefusesRequest rest → IsReadOut rest
unfinished_out rest is spelling after (Asked request told) splits spells =
    is.not_spelled request after (record { spelling = spelling; spells = spells.0; splits = splits })
unfinished_out rest is spelling after Unknown splits spells =
    is.not_refused (UnknownCommand false) (spells.0, record { line = spelling; after = after; splits = splits; is_line = spells.1 }, spells.2)

fault_found : (rest : List ℕ) (refusal : TextError) → FaultAt SpellsRequest RefusesRequest refusal rest
    → IsUnfinished SpellsRequest RefusesRequest rest ⊎ RefusesRequest refusal rest
fault_found rest LineTooLong fault = inr fault
fault_found rest BadKey fault = inr fault
fault_found rest BadNumber fault = inr fault
fault_found rest WrongWords fault = inr fault
fault_found rest DataTooLong fault = inr fault
fault_found rest BadDataEnd fault = inr fault
fault_found rest (UnknownCommand closes) fault = inr fault
fault_found rest Truncated fault = inl fault.1
fault_found rest Closed fault = inr fault
fault_found rest OutOfMemory fault = inr fault

-- how a client's bytes end is how a session's do
there_so : (is_ended : Bool) (rest : List ℕ) (ended : Ended) (answer : Option Reply) → EndsThere is_ended rest ended answer → EndsSo None rest ended answer
there_so is_ended rest how.Quit answer there = there
there_so is_ended rest how.Ended answer there = (there.0, tt, there.2)
there_so is_ended rest (how.Refused number) answer there = (there.0, there.1, there.2, λ e. tt, there.4, there.5)

module _ (free : ArePrefixFree) (not : AreNotRefused) (one : HaveOneRefusal) (nothing : IsUnfinished SpellsRequest RefusesRequest []) where
  refused_out : (rest : List ℕ) (refusal : TextError) → RefusesRequest refusal rest → skips_line refusal ≡ false → IsReadOut rest
  refused_out rest refusal refuses closes spelling after (Asked request told) splits spells =
      not spelling after request refusal spells.0 (subst (RefusesRequest refusal) splits refuses)
  refused_out rest refusal refuses closes spelling after Unknown splits spells =
      let skips : refusal ≡ UnknownCommand false = one rest refusal (UnknownCommand false) refuses
      (spells.0, record { line = spelling; after = after; splits = splits; is_line = spells.1 }, spells.2) in
      let both : true ≡ false = sym (ap skips_line skips) ∙ closes in cc

  quit_out : (rest left : List ℕ) → BeginsWith SpellsRequest rest Quit left → IsReadOut rest
  quit_out rest left begins spelling after (Asked request told) splits spells = by_cut (cut begins.spelling left spelling after (sym begins.splits ∙ splits))
    where
      by_cut : IsCut begins.spelling left spelling after ⊎ IsCut spelling after begins.spelling left → ⊥
      by_cut (inl (t, is, behind)) =
          let same = free begins.spelling t Quit request begins.spells (subst (λ (b : List ℕ). SpellsRequest b request) is spells.0) in
          subst IsServed (sym same.1) spells.1
      by_cut (inr (t, is, behind)) =
          let same = free spelling t request Quit spells.0 (subst (λ (b : List ℕ). SpellsRequest b Quit) is begins.spells) in
          subst IsServed same.1 spells.1
  quit_out rest left begins spelling after Unknown splits spells =
      not begins.spelling left Quit (UnknownCommand false) begins.spells
      (subst (RefusesRequest (UnknownCommand false)) begins.splits
      (spells.0, record { line = spelling; after = after; splits = splits; is_line = spells.1 }, spells.2))

  -- bytes at which a session ends are read out
  pub ended_out : (left : Option (List ℕ)) (rest : List ℕ) (ended : Ended) (answer : Option Reply) → EndsSo left rest ended answer → IsReadOut rest
  ended_out left rest how.Quit answer ends = quit_out rest ends.0.0 ends.0.1
  ended_out left rest how.Ended answer ends = subst IsReadOut (sym ends.0) (unfinished_out [] nothing)
  ended_out left rest (how.Refused number) answer ends = by_fault (fault_found rest ends.0 ends.1)
    where
      by_fault : IsUnfinished SpellsRequest RefusesRequest rest ⊎ RefusesRequest ends.0 rest → IsReadOut rest
      by_fault (inl unfinished) = unfinished_out rest unfinished
      by_fault (inr refuses) = refused_out rest ends.0 refuses ends.2

  -- a session over the same bytes asks the same
  pub asks_the_same : {C : Type 0} (does : Does C) → SessionsAskTheSame does
  asks_the_same does start sent told end is done exchanges bytes rest left ended answer splits spelled ends = by_left is.leaves
    where
      over : (how : Ended) → EndsThere end.client.inbox.has_ended is.rest how is.answer → map asked_of (exchanges_of is.calls) ≡ map asked_of exchanges
      over how there =
          (read_alike free not is.bytes is.rest bytes rest (exchanges_of is.calls) exchanges (sym is.splits ∙ splits) is.reads spelled
          (ended_out None is.rest how is.answer (there_so end.client.inbox.has_ended is.rest how is.answer there))
          (ended_out left rest ended answer ends)).1

      by_left : ((end.client.inbox.is_done ≡ false) × (end.client.inbox.reader.kept ≡ is.rest) × (is.answer ≡ None))
          ⊎ ((end.client.inbox.is_done ≡ true) × ((how : Ended) × EndsThere end.client.inbox.has_ended is.rest how is.answer))
          → map asked_of (exchanges_of is.calls) ≡ map asked_of exchanges
      by_left (inl is_open) = (let going = is_open.0 in let both : true ≡ false = sym done ∙ going in cc)
      by_left (inr shut) = over shut.1.0 shut.1.1
