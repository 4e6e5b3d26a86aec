-- What a client sends, and all that a proxy does.
use Rattle.std.proofs.Common.{◌≡◌, ℕ, inl, inr, List, [], ◌++◌, length, map, slice_set, refl, sym, ap, ◌∙◌, subst}
use Rattle.std.proofs.lemmas.List.{set-set}
use Rattle.mr_history.specs.Places.{At}
use Rattle.mr_history.specs.declared.entry.Entry.{Entry}
use Rattle.mr_loop.specs.Asking.{AsksOn}
use Rattle.mr_loop.specs.LoopView.{LoopView, ClientBytes, ClientEnds, TakesPiece, asker_of}
use Rattle.mr_loop.specs.declared.asker.Asker.{Asker}
use Rattle.mr_loop.specs.declared.asking.Pause.{Pause}
use Rattle.mr_counting.specs.declared.client_counts.ClientCounts.{ClientCounts}
use Rattle.mr_loop.specs.declared.inbox.Inbox.{Inbox}
use Rattle.mr_loop.specs.declared.link.Link.{Link}
use Rattle.mr_loop.specs.Events.{FrontView}
use Rattle.mr_world.specs.WorldView.{WorldView}
use Rattle.mr_streams.specs.Entries.{issued_in}
use Rattle.mr_streams.specs.Steps.{ProxyDoes, left_if_down, with_loop, with_entries}
use Rattle.mr_streams.specs.StreamsView.{StreamsView, Visit}
use Rattle.mr_streams.proofs.Asking.{asks_run}
use Rattle.mr_streams.proofs.Connecting.{runs_behind}
use Rattle.mr_streams.proofs.Fronts.{front_stays}
use Rattle.mr_streams.proofs.Legal.{stops}
use Rattle.mr_streams.proofs.Lists.{at_set, at_written}
use Rattle.mr_streams.proofs.LinkEvents.{restarted, answers}
use Rattle.mr_streams.proofs.LoopEvents.{all_same, dialed, broken, tick, touched, refreshed_runs, place_added, hears}
use Rattle.mr_streams.proofs.LoopMoves.{with_parts, core_there, own_links, moves_quietly, runs_in, no_gains}
use Rattle.mr_streams.proofs.Mirrors.{MirrorsStreams, AreLegal, IsLegalInput, RunsTo}
use Rattle.mr_streams.proofs.Placing.{SheetLaws}

legal_set : (inboxes : List Inbox) (place : ℕ) (inbox : Inbox) → AreLegal inboxes → IsLegalInput inbox.held → AreLegal (slice_set inboxes place inbox)
legal_set inboxes place new legal one = λ n inbox h. elim (at_set inboxes place new h) [
  | inl e ↦ subst (λ (x : Inbox). IsLegalInput x.held) (sym e.1) one
  | inr e ↦ legal n inbox e.1
]

-- what is whole of what a client sent is asked
module _ (laws : SheetLaws) (w : WorldView) (s : StreamsView) (p place : ℕ) (loop : LoopView) (asker : Asker) (pause : Pause) (fed inbox' : Inbox) (front' : FrontView) (links' : List Link) (counts' : ClientCounts) where
  abbrev asked_of : LoopView
  asked_of = record loop { front = front'; inboxes = slice_set loop.inboxes place inbox'; links = links'; client_counts = counts' }

  asks_on : MirrorsStreams w s → At s.loops p loop → At s.readings.standing p asker.reading → IsLegalInput fed.held
      → (asks : AsksOn asker pause (record { inbox = fed; front = loop.front; links = loop.links; counts = loop.client_counts })
      (record { inbox = inbox'; front = front'; links = links'; counts = counts' }))
      → RunsTo w [] (with_entries (issued_in asks.did) (with_loop p asked_of s))
  asks_on m home clock legal asks =
      let between = asks.between in
      let first = asks_run laws asker _ between asks.did w s p loop m home clock legal refl refl in
      let stopped = stops asker pause between (record { inbox = inbox'; front = front'; links = links'; counts = counts' }) first.legal asks.stops in
      let l1 : LoopView = record loop { front = between.front; links = between.links } in
      let gains : List Entry = issued_in asks.did in
      let s1 : StreamsView = with_parts s p l1 s.connections (s.history ++ gains) in
      let w1 : WorldView = first.run.world in
      let m1 : MirrorsStreams w1 s1 = first.run.mirrors in
      let l1_at : At s1.loops p l1 = at_written l1 home in
      let same : LoopView = record loop { front = between.front; inboxes = slice_set loop.inboxes place inbox'; links = between.links; client_counts = counts' } in
      let is = moves_quietly w1 s1 p l1 same m1 l1_at (front_stays w1 p between.front (core_there w1 s1 p l1 m1 l1_at))
      (legal_set loop.inboxes place inbox' (m.legal p loop home) stopped.legal) (own_links w1 s1 p l1 m1 l1_at) (all_same between.links) in
      let loop_is : asked_of ≡ same =
      ap (λ x. record loop { front = x; inboxes = slice_set loop.inboxes place inbox'; links = links'; client_counts = counts' }) stopped.same_front
      ∙ ap (λ x. record loop { front = between.front; inboxes = slice_set loop.inboxes place inbox'; links = x; client_counts = counts' }) stopped.same_links in
      runs_in w [] (with_loop p same s1) (with_entries gains (with_loop p asked_of s))
      (ap (λ x. with_entries gains (with_loop p x s)) loop_is
      ∙ ap (λ x. record s { loops = x; connections = map (left_if_down p same) s.connections; history = s.history ++ gains }) (sym (set-set s.loops p l1 same)))
      (runs_behind w [] [] s1 (with_loop p same s1) first.run is)

pub takes_held : (piece : List ℕ) (old new : Inbox) → TakesPiece piece old new → new.held ≡ old.held
takes_held piece old new (inl takes) = ap (λ (i : Inbox). i.held) takes.3
takes_held piece old new (inr takes) = ap (λ (i : Inbox). i.held) takes.2

client_sends : SheetLaws → (w : WorldView) (s : StreamsView) (p client reading now : ℕ) (piece : List ℕ) (loop loop' : LoopView) (pause : Pause) → MirrorsStreams w s → At s.loops p loop
    → At s.readings.standing p reading → (step : ClientBytes (asker_of loop client reading now) piece loop pause loop') → RunsTo w [] (with_entries (issued_in step.asks.did) (with_loop p loop' s))
client_sends laws w s p client reading now piece loop loop' pause m home clock l =
    let asker : Asker = asker_of loop client reading now in
    let legal : IsLegalInput l.fed.held = subst IsLegalInput (sym (takes_held piece l.inbox l.fed l.takes)) (m.legal p loop home client l.inbox (record { gets = l.there })) in
    runs_in w [] _ _ (ap (λ x. with_entries (issued_in l.asks.did) (with_loop p x s)) l.becomes)
    (asks_on laws w s p client loop asker pause l.fed l.inbox' l.front' l.links' l.counts' m home clock legal l.asks)

client_stops : SheetLaws → (w : WorldView) (s : StreamsView) (p client reading now : ℕ) (loop loop' : LoopView) (pause : Pause) → MirrorsStreams w s → At s.loops p loop
    → At s.readings.standing p reading → (step : ClientEnds (asker_of loop client reading now) loop pause loop') → RunsTo w [] (with_entries (issued_in step.asks.did) (with_loop p loop' s))
client_stops laws w s p client reading now loop loop' pause m home clock l =
    let asker : Asker = asker_of loop client reading now in
    let legal : IsLegalInput l.ended.held =
    subst IsLegalInput (sym (ap (λ (i : Inbox). i.held) l.ends.becomes)) (m.legal p loop home client l.inbox (record { gets = l.there })) in
    runs_in w [] _ _ (ap (λ x. with_entries (issued_in l.asks.did) (with_loop p x s)) l.becomes)
    (asks_on laws w s p client loop asker pause l.ended l.inbox' l.front' l.links' l.counts' m home clock legal l.asks)

-- a proxy does something by itself or for its clients
pub proxy_runs : SheetLaws → (w : WorldView) (s : StreamsView) (p reading : ℕ) (loop loop' : LoopView) (visits visits' : List Visit) (gains : List Entry) → MirrorsStreams w s
    → At s.readings.standing p reading → At s.loops p loop → ProxyDoes reading loop visits loop' visits' gains → RunsTo w [] (with_entries gains (with_loop p loop' s))
proxy_runs laws w s p reading loop loop' visits visits' gains m clock home (ProxyDoes.dials link step) = no_gains w _ (dialed w s p link loop loop' m home step)
proxy_runs laws w s p reading loop loop' visits visits' gains m clock home (ProxyDoes.breaks link now step) = no_gains w _ (broken w s p link now loop loop' m home step)
proxy_runs laws w s p reading loop loop' visits visits' gains m clock home (ProxyDoes.waits now) = no_gains w _ (tick w s p now loop m home)
proxy_runs laws w s p reading loop loop' visits visits' gains m clock home (ProxyDoes.looks place step) = no_gains w _ (touched w s p place loop loop' m home step)
proxy_runs laws w s p reading loop loop' visits visits' gains m clock home (ProxyDoes.restarts not_last) = no_gains w _ (restarted w s p loop m home not_last)
proxy_runs laws w s p reading loop loop' visits visits' gains m clock home ProxyDoes.adds_place = no_gains w _ (place_added w s p loop m home)
proxy_runs laws w s p reading loop loop' visits visits' gains m clock home (ProxyDoes.comes client) = no_gains w _ (refreshed_runs w s p client loop loop' m home refl refl refl refl)
proxy_runs laws w s p reading loop loop' visits visits' gains m clock home (ProxyDoes.goes client) = no_gains w _ (refreshed_runs w s p client loop loop' m home refl refl refl refl)
proxy_runs laws w s p reading loop loop' visits visits' gains m clock home (ProxyDoes.hears {pause = pause} client now piece is_visit step) =
    client_sends laws w s p client reading now piece loop loop' pause m home clock step
proxy_runs laws w s p reading loop loop' visits visits' gains m clock home (ProxyDoes.hears_end {pause = pause} client now step) =
    client_stops laws w s p client reading now loop loop' pause m home clock step
proxy_runs laws w s p reading loop loop' visits visits' gains m clock home (ProxyDoes.answers client is_visit step) = answers w s p client loop loop' m home step
proxy_runs laws w s p reading loop loop' visits visits' gains m clock home (ProxyDoes.tells client piece rest is_visit splits step) =
    no_gains w _ (hears w s p client (length piece) loop loop' m home step)
