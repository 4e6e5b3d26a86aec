-- Whatever happens to streams: what nodes may still store beyond what was stored is no more than was issued.
use Rattle.std.proofs.Common.{◌≡◌, ◌≢◌, ℕ, ◌+◌, ◌≤◌, ◌<◌, inl, inr, Bool, true, false, List, [], ◌∷◌, ◌++◌, length, map, get_or, slice_get, slice_set, drop, Some, None, if◌then◌else◌, refl, sym, ap, ◌∙◌, subst, append_assoc, arith}
use Rattle.std.proofs.Math.ListN.{get_or-append}
use Rattle.std.proofs.lemmas.List.{append-nil, drop_at, length-map, length-append, map-set, set-set}
use Rattle.std.proofs.lemmas.List.Sums.{sum_by-append, sum_by-cons}
use Rattle.std.proofs.lemmas.Option.{slice_get_within}
use Rattle.mr_clock.specs.Readings.{Tick}
use Rattle.mr_history.specs.Places.{At}
use Rattle.mr_history.specs.declared.entry.Entry.{Entry}
use Rattle.mr_history.specs.declared.entry.Entry.TheVariants as entry
use Rattle.mr_node.specs.Output.{is_silent}
use Rattle.mr_proxy.specs.Answer.{AnswerView, reply_of}
use Rattle.mr_loop.specs.Events.{FrontView}
use Rattle.mr_loop.specs.Links.{up_link}
use Rattle.mr_loop.specs.LoopView.{LoopView, ClientBytes, ClientEnds, LinkBytes, LinkWrote, LinkComesUp, asker_of, link_output_in}
use Rattle.mr_loop.specs.Returning.{TakesBytes, Breaks}
use Rattle.mr_loop.specs.declared.asker.Asker.{Asker}
use Rattle.mr_loop.specs.declared.asking.Pause.{Pause}
use Rattle.mr_loop.specs.declared.inbox.Inbox.{Inbox}
use Rattle.mr_loop.specs.declared.link.Link.{Link}
use Rattle.mr_loop.specs.declared.link.LinkEnd.{LinkEnd}
use Rattle.mr_loop.specs.declared.link.LinkEnd.TheVariants.{Whole, Surplus, Mismatch, Complaint, Refused, Down}
use Rattle.mr_loop.specs.declared.node.client.NodeClient.{NodeClient}
use Rattle.mr_loop.specs.declared.turns.Turn.{Turn}
use Rattle.mr_loop.specs.declared.turns.Turn.TheVariants.{Waits, Answered, Says}
use Rattle.mr_loop.specs.node.NodeView.{after_node_coming, fresh_node_client}
use Rattle.mr_world.specs.WorldView.{WorldView}
use Rattle.mr_streams.specs.Entries.{issued_in, told_by, told_in}
use Rattle.mr_streams.specs.Headline.{Starts}
use Rattle.mr_streams.specs.Steps.{ProxyDoes, CrossesLink, StreamsStep, StreamsRun, left_if_down, left_over, fresh_connection, with_loop, with_node, with_connection, with_entries}
use Rattle.mr_streams.specs.StreamsView.{StreamsView, NodeEnd, Connection, Visit}
use Rattle.mr_streams.proofs.Changing.{IsSameLink, unless_down, up_at}
use Rattle.mr_streams.proofs.ClientEvents.{takes_held}
use Rattle.mr_streams.proofs.Connecting.{over_or_not}
use Rattle.mr_streams.proofs.Legal.{stops}
use Rattle.mr_streams.proofs.LinkEvents.{restarted_same}
use Rattle.mr_streams.proofs.Lists.{at_map, at_mapped, at_one, at_last, at_set, at_written, at_nothing, same_or_not, written_back}
use Rattle.mr_streams.proofs.LoopEvents.{all_same, dialed_same, broken_same, ticked_all_same}
use Rattle.mr_streams.proofs.Mirrors.{MirrorsStreams, IsLegalInput, lines_of, seats_of}
use Rattle.mr_streams.proofs.Owing.{Picks, Keeps, Carries, AreCarried, Owes, within_more, issued, stored, stored_at, total}
use Rattle.mr_streams.proofs.OwingAsks.{asks_owed, asks_legal, asks_store_none}
use Rattle.mr_streams.proofs.OwingLinks.{writes_elsewhere, writes_kept, own_link, carries_left, carried_moved, carried_changed}
use Rattle.mr_streams.proofs.OwingNodes.{keeps_before, stood_but, owes_node, owes_node_place, owes_node_restart}
use Rattle.mr_streams.proofs.Placing.{SheetLaws}
use Rattle.mr_streams.proofs.Refining.{StreamLaws, run_runs}

-- a loop makes a step, by which its links end as they were after what was owed
module _ (is : Picks) (first : ℕ) (s : StreamsView) (p : ℕ) (loop loop' : LoopView) (gains : List Entry) (visits : List (List Visit)) where
  abbrev after_loop : StreamsView
  after_loop = with_entries gains (record (with_loop p loop' s) { visits = visits })

  owes_loop : (links : List Link) (now : List ℕ) → At s.loops p loop → (h : Owes is first s)
      → AreCarried is (slice_set (lines_of s.loops) p links) (seats_of s.nodes) s.connections now → ((place : ℕ) → IsSameLink links loop'.links place)
      → total now + stored is gains ≤ total h.owed + issued is gains → Owes is first after_loop
  owes_loop links now home h carried still few =
      let lines_there : At (lines_of s.loops) p loop.links = at_mapped (λ (l : LoopView). l.links) home in
      let moved = carried_moved is (seats_of s.nodes) (slice_set (lines_of s.loops) p links) s.connections now p links loop' (at_written links lines_there) still carried in
      let lines : slice_set (slice_set (lines_of s.loops) p links) p loop'.links ≡ lines_of (slice_set s.loops p loop') =
      set-set (lines_of s.loops) p links loop'.links ∙ sym (map-set (λ (l : LoopView). l.links) s.loops p loop') in
      record {
        owed = now;
        carried = subst (λ l. AreCarried is l (seats_of s.nodes) (map (left_if_down p loop') s.connections) now) lines moved;
        within = within_more is first (total h.owed) (total now) s.history gains h.within few;
      }

  -- what is owed before, by another word for the links
  owed_before : At s.loops p loop → (h : Owes is first s) → AreCarried is (slice_set (lines_of s.loops) p loop.links) (seats_of s.nodes) s.connections h.owed
  owed_before home h = subst (λ l. AreCarried is l (seats_of s.nodes) s.connections h.owed) (sym (written_back (at_mapped (λ (l : LoopView). l.links) home))) h.carried

  -- no leg goes, and nothing is stored
  owes_quietly : At s.loops p loop → ((place : ℕ) → IsSameLink loop.links loop'.links place) → stored is gains ≡ 0 → Owes is first s → Owes is first after_loop
  owes_quietly home still none h = owes_loop loop.links h.owed home h (owed_before home h) still (omega arith)

  -- the links are the same
  owes_same : At s.loops p loop → loop'.links ≡ loop.links → stored is gains ≡ 0 → Owes is first s → Owes is first after_loop
  owes_same home same none h = owes_quietly home (λ place. subst (λ l. IsSameLink loop.links l place) (sym same) (all_same loop.links place)) none h

-- answers store nothing
answer_stores_none : (is : Picks) (answer : AnswerView) (silent : Bool) → stored is (if silent then [] else entry.Answered answer.op (reply_of answer) ∷ []) ≡ 0
answer_stores_none is answer true = refl
answer_stores_none is answer false = (let sum = sum_by-cons (stored_at is) (entry.Answered answer.op (reply_of answer)) [] in omega arith)

turn_stores_none : (is : Picks) (turn : Turn) → stored is (told_by turn) ≡ 0
turn_stores_none is (Waits op) = refl
turn_stores_none is (Answered answer) = answer_stores_none is answer (is_silent answer.request)
turn_stores_none is (Says reply) = refl

told_stores_none : (is : Picks) (turns : List Turn) → stored is (told_in turns) ≡ 0
told_stores_none is [] = refl
told_stores_none is (turn ∷ turns) =
    let sum = sum_by-append (stored_at is) (told_by turn) (told_in turns) in
    let a = turn_stores_none is turn in
    let b = told_stores_none is turns in
    omega arith

-- a client asks
module _ (laws : SheetLaws) (is : Picks) (first : ℕ) (w : WorldView) (s : StreamsView) (p client reading now : ℕ) (loop loop' : LoopView) (pause : Pause) (visits : List (List Visit)) where
  owes_bytes : (piece : List ℕ) → MirrorsStreams w s → At s.loops p loop → (l : ClientBytes (asker_of loop client reading now) piece loop pause loop')
      → Owes is first s → Owes is first (with_entries (issued_in l.asks.did) (record (with_loop p loop' s) { visits = visits }))
  owes_bytes piece m home l h =
      let asker : Asker = asker_of loop client reading now in
      let asks = l.asks in
      let legal : IsLegalInput l.fed.held = subst IsLegalInput (sym (takes_held piece l.inbox l.fed l.takes)) (m.legal p loop home client l.inbox (record { gets = l.there })) in
      let lines_there : At (lines_of s.loops) p loop.links = at_mapped (λ (x : LoopView). x.links) home in
      let more = asks_owed laws is (lines_of s.loops) (seats_of s.nodes) s.connections p loop.links asker _ asks.between asks.did h.owed m.mirrors.one_link lines_there legal
      (owed_before is first s p loop loop [] [] home h) in
      let stopped = stops asker pause asks.between (record { inbox = l.inbox'; front = l.front'; links = l.links'; counts = l.counts' }) (asks_legal asker _ asks.between asks.did legal) asks.stops in
      let links : loop'.links ≡ asks.between.links = ap (λ (x : LoopView). x.links) l.becomes ∙ stopped.same_links in
      let none = asks_store_none is asker _ asks.between asks.did in
      owes_loop is first s p loop loop' (issued_in asks.did) visits asks.between.links more.now home h more.carried
      (λ place. subst (λ x. IsSameLink asks.between.links x place) (sym links) (all_same asks.between.links place))
      (let few = more.few in omega arith)

  owes_end : MirrorsStreams w s → At s.loops p loop → (l : ClientEnds (asker_of loop client reading now) loop pause loop')
      → Owes is first s → Owes is first (with_entries (issued_in l.asks.did) (record (with_loop p loop' s) { visits = visits }))
  owes_end m home l h =
      let asker : Asker = asker_of loop client reading now in
      let asks = l.asks in
      let legal : IsLegalInput l.ended.held =
      subst IsLegalInput (sym (ap (λ (i : Inbox). i.held) l.ends.becomes)) (m.legal p loop home client l.inbox (record { gets = l.there })) in
      let lines_there : At (lines_of s.loops) p loop.links = at_mapped (λ (x : LoopView). x.links) home in
      let more = asks_owed laws is (lines_of s.loops) (seats_of s.nodes) s.connections p loop.links asker _ asks.between asks.did h.owed m.mirrors.one_link lines_there legal
      (owed_before is first s p loop loop [] [] home h) in
      let stopped = stops asker pause asks.between (record { inbox = l.inbox'; front = l.front'; links = l.links'; counts = l.counts' }) (asks_legal asker _ asks.between asks.did legal) asks.stops in
      let links : loop'.links ≡ asks.between.links = ap (λ (x : LoopView). x.links) l.becomes ∙ stopped.same_links in
      let none = asks_store_none is asker _ asks.between asks.did in
      owes_loop is first s p loop loop' (issued_in asks.did) visits asks.between.links more.now home h more.carried
      (λ place. subst (λ x. IsSameLink asks.between.links x place) (sym links) (all_same asks.between.links place))
      (let few = more.few in omega arith)

-- a proxy does something by itself or for its clients
owes_proxy : SheetLaws → (is : Picks) (first : ℕ) (w : WorldView) (s : StreamsView) (p reading : ℕ) (loop loop' : LoopView) (visits visits' : List Visit) (gains : List Entry) → MirrorsStreams w s
    → At s.loops p loop → ProxyDoes reading loop visits loop' visits' gains → Owes is first s
    → Owes is first (with_entries gains (record (with_loop p loop' s) { visits = slice_set s.visits p visits' }))
owes_proxy laws is first w s p reading loop loop' visits visits' gains m home (ProxyDoes.dials link step) h =
    owes_quietly is first s p loop loop' [] (slice_set s.visits p visits') home (dialed_same link loop loop' step) refl h
owes_proxy laws is first w s p reading loop loop' visits visits' gains m home (ProxyDoes.breaks link now step) h =
    owes_quietly is first s p loop loop' [] (slice_set s.visits p visits') home (broken_same link now loop loop' step) refl h
owes_proxy laws is first w s p reading loop loop' visits visits' gains m home (ProxyDoes.waits now) h =
    owes_quietly is first s p loop loop' [] (slice_set s.visits p visits') home (ticked_all_same loop.limits.leg_timeout now loop.links) refl h
owes_proxy laws is first w s p reading loop loop' visits visits' gains m home (ProxyDoes.looks None step) h =
    owes_same is first s p loop loop' [] (slice_set s.visits p visits') home (ap (λ (x : LoopView). x.links) step.1) refl h
owes_proxy laws is first w s p reading loop loop' visits visits' gains m home (ProxyDoes.looks (Some place) step) h =
    owes_same is first s p loop loop' [] (slice_set s.visits p visits') home (ap (λ (x : LoopView). x.links) step.1) refl h
owes_proxy laws is first w s p reading loop loop' visits visits' gains m home (ProxyDoes.restarts not_last) h =
    owes_quietly is first s p loop loop' [] (slice_set s.visits p visits') home (restarted_same loop) refl h
owes_proxy laws is first w s p reading loop loop' visits visits' gains m home ProxyDoes.adds_place h =
    owes_same is first s p loop loop' [] (slice_set s.visits p visits') home refl refl h
owes_proxy laws is first w s p reading loop loop' visits visits' gains m home (ProxyDoes.comes client) h =
    owes_same is first s p loop loop' [] (slice_set s.visits p visits') home refl refl h
owes_proxy laws is first w s p reading loop loop' visits visits' gains m home (ProxyDoes.goes client) h =
    owes_same is first s p loop loop' [] (slice_set s.visits p visits') home refl refl h
owes_proxy laws is first w s p reading loop loop' visits visits' gains m home (ProxyDoes.hears {pause = pause} client now piece is_visit step) h =
    owes_bytes laws is first w s p client reading now loop loop' pause (slice_set s.visits p visits') piece m home step h
owes_proxy laws is first w s p reading loop loop' visits visits' gains m home (ProxyDoes.hears_end {pause = pause} client now step) h =
    owes_end laws is first w s p client reading now loop loop' pause (slice_set s.visits p visits') m home step h
owes_proxy laws is first w s p reading loop loop' visits visits' gains m home (ProxyDoes.answers client is_visit step) h =
    owes_same is first s p loop loop' gains (slice_set s.visits p visits') home (ap (λ (x : LoopView). x.links) step.becomes) (told_stores_none is step.tells.told) h
owes_proxy laws is first w s p reading loop loop' visits visits' gains m home (ProxyDoes.tells client piece rest is_visit splits step) h =
    owes_same is first s p loop loop' [] (slice_set s.visits p visits') home (ap (λ (x : LoopView). x.links) step.becomes) refl h

-- a link that broke is down
broken_down : (now : ℕ) (old new : Link) (front front' : FrontView) → Breaks now old front new front' → new.is_up ≡ true → ⊥
broken_down now old new front front' b up = (let no : false ≡ true = ap (λ (x : Link). x.is_up) (sym b.down) ∙ up in cc)

-- bytes that come over a link leave what is to be written to it, where it stays up
takes_out : (now : ℕ) (piece : List ℕ) (old : Link) (front : FrontView) (end : LinkEnd) (new : Link) (front' : FrontView) → TakesBytes now piece old front end new front'
    → new.is_up ≡ true → new.out ≡ old.out
takes_out now piece old front Whole new front' h up = h.same_out
takes_out now piece old front Surplus new front' h up = absurd (broken_down now _ new _ front' h.breaks up)
takes_out now piece old front Mismatch new front' h up = absurd (broken_down now _ new _ front' h.breaks up)
takes_out now piece old front Complaint new front' h up = absurd (broken_down now _ new _ front' h.breaks up)
takes_out now piece old front (Refused refusal) new front' h up = elim h [
  | inl some ↦ absurd (broken_down now _ new _ front' some.breaks up)
  | inr once ↦ absurd (broken_down now _ new _ front' once.breaks up)
]
takes_out now piece old front Down new front' h up = ap (λ (x : Link). x.out) h.1

-- bytes cross the proxy's end of a connection
module _ (is : Picks) (first : ℕ) (w : WorldView) (s : StreamsView) (number : ℕ) (c : Connection) (loop new : LoopView) where
  -- the connection and its link change, and nothing else
  owes_crossed : (c' : Connection) (link' : Link) → MirrorsStreams w s → At s.connections number c → c.is_left ≡ false → At s.loops c.proxy loop
      → new.links ≡ slice_set loop.links c.link link' → (h : Owes is first s)
      → Carries is (slice_set (lines_of s.loops) c.proxy new.links) (seats_of s.nodes) (left_if_down c.proxy new c') (get_or h.owed number 0)
      → Owes is first (with_loop c.proxy new (with_connection number c' s))
  owes_crossed c' link' m there is_here home links h carries =
      let lines_there : At (lines_of s.loops) c.proxy loop.links = at_mapped (λ (x : LoopView). x.links) home in
      let lines : slice_set (lines_of s.loops) c.proxy new.links ≡ lines_of (slice_set s.loops c.proxy new) = sym (map-set (λ (l : LoopView). l.links) s.loops c.proxy new) in
      record {
        owed = h.owed;
        carried = subst (λ l. AreCarried is l (seats_of s.nodes) (map (left_if_down c.proxy new) (slice_set s.connections number c')) h.owed) lines
            (carried_changed is (seats_of s.nodes) (lines_of s.loops) s.connections h.owed number c c' loop.links link' new m.mirrors.one_link lines_there there is_here links carries h.carried);
        within = h.within;
      }

  owes_leaves : (piece rest : List ℕ) → MirrorsStreams w s → At s.connections number c → c.is_left ≡ false → At s.loops c.proxy loop
      → link_output_in (slice_get loop.links c.link) ≡ piece ++ rest → LinkWrote c.link (length piece) loop new → Owes is first s
      → Owes is first (with_loop c.proxy new (with_connection number (record c { forth = c.forth ++ piece }) s))
  owes_leaves piece rest m at is_here home splits l h =
      let c' : Connection = record c { forth = c.forth ++ piece } in
      let link' : Link = record l.link { out = drop (length piece) l.link.out } in
      let there : At loop.links c.link l.link = record { gets = l.there } in
      let lines_there : At (lines_of s.loops) c.proxy loop.links = at_mapped (λ (x : LoopView). x.links) home in
      let most : ℕ = get_or h.owed number 0 in
      let lines' : List (List Link) = slice_set (lines_of s.loops) c.proxy new.links in
      let one = h.carried.each number c at in
      let old = one.here is_here in
      let same : l.link ≡ old.link = own_link (lines_of s.loops) c.proxy c.link loop.links l.link c.proxy c.link one.out lines_there there refl refl old in
      let links : new.links ≡ slice_set loop.links c.link link' = ap (λ (x : LoopView). x.links) l.becomes in
      let out : l.link.out ≡ piece ++ rest = ap link_output_in (sym l.there) ∙ splits in
      let left : link'.out ≡ rest = ap (λ x. drop (length piece) x) out ∙ drop_at piece rest (length piece) refl in
      let was : one.out ≡ piece ++ rest = sym old.out_is ∙ ap (λ (x : Link). x.out) (sym same) ∙ out in
      let carries : Carries is lines' (seats_of s.nodes) c' most = record {
        legs = one.legs;
        out = rest;
        readable = one.readable;
        few = one.few;
        texts = λ kept k. ap (λ x. kept ++ x) (append_assoc c.forth piece rest ∙ ap (λ x. c.forth ++ x) (sym was)) ∙ one.texts kept k;
        here = λ _. record {
          links = new.links;
          link = link';
          home = at_written new.links lines_there;
          there = subst (λ x. At x c.link link') (sym links) (at_written link' there);
          is_up = ap (λ (x : Link). x.is_up) same ∙ old.is_up;
          out_is = left;
        };
      } in
      owes_crossed c' link' m at is_here home links h
      (unless_down (λ x. Carries is lines' (seats_of s.nodes) x most) c.proxy new c' (carries_left is (seats_of s.nodes) lines' lines' c' most carries) (λ _. carries))

  owes_reaches : (now : ℕ) (end : LinkEnd) (piece rest : List ℕ) → MirrorsStreams w s → At s.connections number c → c.is_left ≡ false → At s.loops c.proxy loop
      → LinkBytes c.link now piece loop end new → Owes is first s
      → Owes is first (with_loop c.proxy new (with_connection number (record c { back = rest }) s))
  owes_reaches now end piece rest m at is_here home l h =
      let c' : Connection = record c { back = rest } in
      let there : At loop.links c.link l.link = record { gets = l.there } in
      let lines_there : At (lines_of s.loops) c.proxy loop.links = at_mapped (λ (x : LoopView). x.links) home in
      let most : ℕ = get_or h.owed number 0 in
      let lines' : List (List Link) = slice_set (lines_of s.loops) c.proxy new.links in
      let one = h.carried.each number c at in
      let old = one.here is_here in
      let same : l.link ≡ old.link = own_link (lines_of s.loops) c.proxy c.link loop.links l.link c.proxy c.link one.out lines_there there refl refl old in
      let links : new.links ≡ slice_set loop.links c.link l.link' = ap (λ (x : LoopView). x.links) l.becomes in
      let new_there : At new.links c.link l.link' = subst (λ x. At x c.link l.link') (sym links) (at_written l.link' there) in
      owes_crossed c' l.link' m at is_here home links h
      (unless_down (λ x. Carries is lines' (seats_of s.nodes) x most) c.proxy new c'
      (record { legs = one.legs; out = one.out; readable = one.readable; few = one.few; texts = one.texts; here = λ e. absurd (let no : true ≡ false = e in cc) })
      (λ where'. elim where' [
        | inl other ↦ absurd (other refl)
        | inr up ↦ (
            let found = up_at new.links c.link up.1 in
            let is_new : found.0 ≡ l.link' = at_one found.1 new_there in
            let is_up : l.link'.is_up ≡ true = ap (λ (x : Link). x.is_up) (sym is_new) ∙ found.2 in
            record {
              legs = one.legs;
              out = one.out;
              readable = one.readable;
              few = one.few;
              texts = one.texts;
              here = λ _. record {
                links = new.links;
                link = l.link';
                home = at_written new.links lines_there;
                there = new_there;
                is_up = is_up;
                out_is = takes_out now piece l.link loop.front end l.link' l.front' l.takes is_up ∙ ap (λ (x : Link). x.out) same ∙ old.out_is;
              };
            })
      ]))

owes_link : (is : Picks) (first : ℕ) (w : WorldView) (s : StreamsView) (number : ℕ) (c c' : Connection) (loop loop' : LoopView) → MirrorsStreams w s
    → At s.connections number c → c.is_left ≡ false → At s.loops c.proxy loop → CrossesLink c loop c' loop' → Owes is first s
    → Owes is first (with_loop c.proxy loop' (with_connection number c' s))
owes_link is first w s number c c' loop loop' m there is_here home (CrossesLink.leaves piece rest splits step) h =
    owes_leaves is first w s number c loop loop' piece rest m there is_here home splits step h
owes_link is first w s number c c' loop loop' m there is_here home (CrossesLink.reaches {end = end} now piece rest splits step) h =
    owes_reaches is first w s number c loop loop' now end piece rest m there is_here home step h

-- a connection is made
owes_connects : (is : Picks) (first : ℕ) (s : StreamsView) (p link node place now : ℕ) (loop loop' : LoopView) (end : NodeEnd) → At s.loops p loop → LinkComesUp link now loop loop'
    → At s.nodes node end → ((i : ℕ) (c : Connection) → At s.connections i c → c.node ≡ node → c.place ≢ Some place) → Owes is first s
    → Owes is first (record (with_node node end (after_node_coming place end.loop) s) {
      loops = slice_set s.loops p loop';
      connections = map (left_over p link) s.connections ++ fresh_connection p link node place ∷ [];
    })
owes_connects is first s p link node place now loop loop' end home l there free h =
    let new : Link = up_link l.link'.counts in
    let links : List Link = slice_set loop.links link new in
    let links_are : loop'.links ≡ links = ap (λ (x : LoopView). x.links) l.becomes in
    let lines_there : At (lines_of s.loops) p loop.links = at_mapped (λ (x : LoopView). x.links) home in
    let lines' : List (List Link) = slice_set (lines_of s.loops) p links in
    let end' : NodeEnd = record end { loop = after_node_coming place end.loop } in
    let clients' : List NodeClient = slice_set end.loop.clients place fresh_node_client in
    let seats_there : At (seats_of s.nodes) node end.loop.clients = at_mapped (λ (x : NodeEnd). x.loop.clients) there in
    let seats' : List (List NodeClient) = slice_set (seats_of s.nodes) node clients' in
    let left : List Connection = map (left_over p link) s.connections in
    let fresh : Connection = fresh_connection p link node place in
    let now_owed : List ℕ = h.owed ++ 0 ∷ [] in
    let new_there : At links link new = at_written new (let t : At loop.links link l.link = record { gets = l.there } in t) in
    let carried : AreCarried is lines' seats' (left ++ fresh ∷ []) now_owed = record {
      as_many = length-append h.owed (0 ∷ []) ∙ ap (λ n. n + 1) (h.carried.as_many ∙ sym (length-map s.connections (left_over p link))) ∙ sym (length-append left (fresh ∷ []));
      each = λ i d k. elim (at_last left fresh k) [
        | inl old ↦ (
            let was = at_map (left_over p link) s.connections old in
            let most : ℕ = get_or h.owed i 0 in
            let one = h.carried.each i was.0 was.1 in
            let within : i < length h.owed = subst (λ n. i < n) (sym h.carried.as_many) (slice_get_within s.connections i was.0 was.1.gets) in
            let texts = λ (kept : List ℕ) (k' : Keeps seats' was.0.node was.0.place kept).
            one.texts kept (keeps_before (seats_of s.nodes) node end.loop.clients clients' was.0.node was.0.place kept seats_there
            (λ same other is_at client. stood_but end.loop.clients place other fresh_node_client client (λ e. free i was.0 was.1 same (is_at ∙ ap (λ x. Some x) e))) k') in
            subst (λ m. Carries is lines' seats' d m) (sym (get_or-append h.owed (0 ∷ []) 0 i within))
            (subst (λ x. Carries is lines' seats' x most) (sym was.2)
            (over_or_not (λ x. Carries is lines' seats' x most) p link was.0
            (record { legs = one.legs; out = one.out; readable = one.readable; few = one.few; texts = texts; here = λ e. absurd (let no : true ≡ false = e in cc) })
            (λ other. record {
              legs = one.legs;
              out = one.out;
              readable = one.readable;
              few = one.few;
              texts = texts;
              here = λ e. elim (same_or_not was.0.proxy p) [
                | inl same ↦ writes_kept (lines_of s.loops) p link loop.links new was.0.proxy was.0.link one.out lines_there same (other same) (one.here e)
                | inr ne ↦ writes_elsewhere (lines_of s.loops) p links was.0.proxy was.0.link one.out ne (one.here e)
              ];
            }))))
        | inr last ↦ subst (λ x. Carries is lines' seats' x (get_or now_owed i 0)) (sym last.1) (record {
          legs = [];
          out = [];
          readable = tt;
          few = omega arith;
          texts = λ kept k'. (
              let clients_are : k'.clients ≡ clients' = at_one k'.home (at_written clients' seats_there) in
              let number : place ≡ k'.number = (let e : Some place ≡ Some k'.number = k'.is_open in cc) in
              let at_place : At clients' place k'.client = subst (λ x. At x place k'.client) clients_are (subst (λ n. At k'.clients n k'.client) (sym number) k'.there) in
              elim (at_set end.loop.clients place fresh_node_client at_place) [
                | inl f ↦ append-nil kept ∙ sym k'.kept_is ∙ ap (λ (x : NodeClient). x.inbox.reader.kept) f.1
                | inr f ↦ absurd (f.0 refl)
              ]);
          here = λ _. record {
            links = links;
            link = new;
            home = at_written links lines_there;
            there = new_there;
            is_up = refl;
            out_is = refl;
          };
        })
      ];
    } in
    let lines_are : lines' ≡ lines_of (slice_set s.loops p loop') =
    ap (λ x. slice_set (lines_of s.loops) p x) (sym links_are) ∙ sym (map-set (λ (x : LoopView). x.links) s.loops p loop') in
    let seats_are : seats' ≡ seats_of (slice_set s.nodes node end') = sym (map-set (λ (x : NodeEnd). x.loop.clients) s.nodes node end') in
    record {
      owed = now_owed;
      carried = subst (λ x. AreCarried is (lines_of (slice_set s.loops p loop')) x (left ++ fresh ∷ []) now_owed) seats_are
          (subst (λ x. AreCarried is x seats' (left ++ fresh ∷ []) now_owed) lines_are carried);
      within = (let sum = sum_by-append (λ (n : ℕ). n) h.owed (0 ∷ []) in let old = h.within in omega arith);
    }

-- one thing that happens
pub owes_step : StreamLaws → (is : Picks) (first : ℕ) (w : WorldView) (s s' : StreamsView) (ticks : List Tick) → MirrorsStreams w s → StreamsStep s ticks s' → Owes is first s → Owes is first s'
owes_step laws is first w s s' ticks m (StreamsStep.shows tick within) h = record { owed = h.owed; carried = h.carried; within = h.within }
owes_step laws is first w s s' ticks m (StreamsStep.at_proxy {reading = reading} {loop = loop} {loop' = loop'} {visits = visits} {visits' = visits'} {gains = gains} number clock home were does) h =
    owes_proxy laws.sheets is first w s number reading loop loop' visits visits' gains m home does h
owes_step laws is first w s s' ticks m (StreamsStep.connects {loop = loop} {loop' = loop'} {end = end} number link node place now home step there named within free) h =
    owes_connects is first s number link node place now loop loop' end home step there free h
owes_step laws is first w s s' ticks m (StreamsStep.at_link {c = c} {c' = c'} {loop = loop} {loop' = loop'} number there here home crosses) h =
    owes_link is first w s number c c' loop loop' m there here home crosses h
owes_step laws is first w s s' ticks m (StreamsStep.at_node {c = c} {c' = c'} {end = end} {loop' = loop'} {gains = gains} number place there is_open home does) h =
    owes_node laws.requests is first w s number place c c' end loop' gains m there is_open home does h
owes_step laws is first w s s' ticks m (StreamsStep.adds_place {end = end} number home) h = owes_node_place is first w s number end m home h
owes_step laws is first w s s' ticks m (StreamsStep.restarts {end = end} number home) h = owes_node_restart is first s number end home h

-- all things that happen
pub owes_run : StreamLaws → (is : Picks) (first : ℕ) (w : WorldView) (s : StreamsView) (ticks : List Tick) (s' : StreamsView) → MirrorsStreams w s → Owes is first s → StreamsRun s ticks s' → Owes is first s'
owes_run laws is first w s ticks s' m h StreamsRun.begins = h
owes_run laws is first w s ticks s' m h (StreamsRun.goes_on {ticks = before} {more = more} {between = between} run step) =
    let mirrored = run_runs laws w s before between m run in
    owes_step laws is first mirrored.world between s' more mirrored.mirrors step (owes_run laws is first w s before between m h run)

-- nothing is owed at the beginning
pub owes_start : (is : Picks) (setup : _) (s : StreamsView) → Starts setup s → Owes is (stored is s.history) s
owes_start is setup s starts = record {
  owed = [];
  carried = record {
    as_many = ap length (sym starts.connections);
    each = λ i c k. absurd (at_nothing (subst (λ x. At x i c) starts.connections k));
  };
  within = omega arith;
}
