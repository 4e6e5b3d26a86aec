-- A node that performs a leg keeps what the headline rests on.
use Rattle.std.proofs.Common.{◌≡◌, ◌≢◌, ℕ, ◌+◌, ◌<◌, ◌≤◌, ◌⊎◌, List, ◌++◌, length, slice_set, ℤ, refl, sym, ap, subst, ◌∙◌, inl, inr, arith}
use Rattle.std.proofs.lemmas.List.{append-nil}
use Rattle.std.proofs.lemmas.Nat.{mod_below}
use Rattle.mr_text.specs.declared.item.Item.{Item}
use Rattle.mr_text.specs.declared.request.Request.TheVariants as request
use Rattle.mr_history.specs.declared.op_id.OpId.{OpId}
use Rattle.mr_history.specs.declared.entry.Author.{Author}
use Rattle.mr_history.specs.declared.entry.Author.TheVariants.{Beginning, By}
use Rattle.mr_history.specs.declared.entry.Entry.{Entry}
use Rattle.mr_history.specs.declared.entry.Entry.TheVariants as entry
use Rattle.mr_history.specs.History.{IsIssued, WasIssued, IsFreshHit, IsSafe, IsWellFormed}
use Rattle.mr_history.specs.Places.{At}
use Rattle.mr_join.specs.declared.leg_reply.LegReply.{LegReply}
use Rattle.mr_join.specs.declared.leg_reply.LegReply.TheVariants as leg
use Rattle.mr_node.specs.CacheStep.{Datum, Contents, Holds, CacheStep, contents_of}
use Rattle.mr_node.specs.Command.{key_of_command}
use Rattle.mr_node.specs.declared.command.NodeCommand.{NodeCommand}
use Rattle.mr_node.specs.declared.command.NodeCommand.TheVariants.{Get, Set, Delete}
use Rattle.mr_phases.specs.declared.side.Side.{Side}
use Rattle.mr_phases.specs.declared.side.Side.TheVariants.{Old, New}
use Rattle.mr_phases.specs.Pools.{pool_number}
use Rattle.mr_phases.specs.Schedule.{Hop}
use Rattle.mr_pools.specs.Hash.{spot_by}
use Rattle.mr_pools.specs.Names.{HasNode, name_at}
use Rattle.mr_pools.specs.Routing.{RoutingView, IsRouting, pool_of, place_of}
use Rattle.mr_proxy.specs.declared.sheet.LegSheet.{LegSheet}
use Rattle.mr_proxy.specs.Sheets.{pool_at}
use Rattle.mr_world.specs.declared.message.Message.{Message}
use Rattle.mr_world.specs.declared.message.Delivery.{Delivery}
use Rattle.mr_world.specs.declared.node.Node.{Node}
use Rattle.mr_world.specs.declared.note.Note.{Note}
use Rattle.mr_world.specs.Facts.{IsFaithfulWorld}
use Rattle.mr_world.specs.Ground.{LegUpTo, LegFrom, IsSource, IsHeld, home_of}
use Rattle.mr_world.specs.Ground.IsSource.{from_beginning, from_set}
use Rattle.mr_world.specs.Grounded.{IsGrounded}
use Rattle.mr_world.specs.Lists.{Has}
use Rattle.mr_world.specs.Positions.{node_number}
use Rattle.mr_world.specs.Steps.{performed, Delivers}
use Rattle.mr_world.specs.Tracked.{LegsShareHops}
use Rattle.mr_world.specs.WorldView.{WorldView}
use Rattle.mr_world.proofs.Lists.{at_within, at_one, at_last, at_new, at_set, has_one, has_none}
use Rattle.mr_world.proofs.FactLemmas.{answered_after}
use Rattle.mr_world.proofs.TrackedLemmas.{number_written, no_issue_performed}
use Rattle.mr_world.proofs.HeldLemmas.{same_name}
use Rattle.mr_world.proofs.GroundLaws.{GroundLaws, IssuesNothing, still_issued, down_quiet, sets_quiet, gets_grow, held_grows, fresh_more, hits_more, safe_quiet}

-- what a node's step leaves of an item

-- nothing is new after a get
after_get : (old : Contents) (key : List ℕ) (reply : LegReply) (new : Contents) (other : List ℕ) (datum : Datum) → CacheStep old (Get key) reply new
    → Holds new other datum → Holds old other datum
after_get old key (leg.Hit flags block) new other datum s h = s.1 other datum h
after_get old key leg.Miss new other datum s h = (s other datum h).1
after_get old key _ new other datum s h = absurd s

-- after a set an item is the set's, or an old one of another key
after_set : (old : Contents) (key : List ℕ) (flags : ℕ) (exptime : ℤ) (block : List ℕ) (reply : LegReply) (new : Contents) (other : List ℕ) (datum : Datum)
    → CacheStep old (Set key flags exptime block) reply new → Holds new other datum
    → ((other ≡ key) × (datum ≡ record { flags = flags; block = block })) ⊎ ((other ≢ key) × Holds old other datum)
after_set old key flags exptime block leg.Stored new other datum s h = s other datum h
after_set old key flags exptime block _ new other datum s h = absurd s

-- after a delete an item is an old one of another key
after_delete : (old : Contents) (key : List ℕ) (reply : LegReply) (new : Contents) (other : List ℕ) (datum : Datum) → CacheStep old (Delete key) reply new
    → Holds new other datum → (other ≢ key) × Holds old other datum
after_delete old key leg.Deleted new other datum s h = s.1 other datum h
after_delete old key leg.NotFound new other datum s h = s other datum h
after_delete old key _ new other datum s h = absurd s

-- a hit was there, under the key that was asked for
hit_was_there : (old : Contents) (c : NodeCommand) (flags : ℕ) (block : List ℕ) (new : Contents) → CacheStep old c (leg.Hit flags block) new
    → (c ≡ Get (key_of_command c)) × Holds old (key_of_command c) (record { flags = flags; block = block })
hit_was_there old (Get key) flags block new s = (refl, s.0)
hit_was_there old (Set key f e b) flags block new s = absurd s
hit_was_there old (Delete key) flags block new s = absurd s

-- pools

-- two sides of one hop are neighbours
sides_close : (hop : ℕ) (a b : Side) → pool_number hop a ≤ pool_number hop b + 1
sides_close hop Old Old = omega arith
sides_close hop Old New = omega arith
sides_close hop New Old = omega arith
sides_close hop New New = omega arith

pools_close : (a b : LegSheet) → a.hop ≡ b.hop → pool_at a ≤ pool_at b + 1
pools_close a b same = subst (λ hop. pool_number hop a.side ≤ pool_at b + 1) (sym same) (sides_close b.hop a.side b.side)

-- of two pools of which one is no later and one no earlier than a third, and that are neighbours, one is the third
between : (up from pool : ℕ) → up ≤ pool → pool ≤ from → from ≤ up + 1 → (up ≡ pool) ⊎ (from ≡ pool)
between up from pool a b c = grind arith

-- the node that keeps a key in a pool is there
pub has_home : (routing : RoutingView) (pool : ℕ) (key : List ℕ) → IsRouting routing → pool < length routing.pools → HasNode routing pool (place_of routing.hash (pool_of routing pool) key)
has_home routing pool key r below = record {
  pool = below;
  within = (let some = (r.sized pool below).not_empty in mod_below (spot_by routing.hash key) (length (pool_of routing pool)) (omega arith));
}

module _ (L : GroundLaws) where
  -- no node keeps keys of two pools
  homes_apart : (nodes : List Node) (routing : RoutingView) (pool other : ℕ) (key name : List ℕ) → IsRouting routing
      → ((number index : ℕ) → HasNode routing number index → node_number nodes (name_at routing number index) < length nodes)
      → pool < length routing.pools → other < length routing.pools → home_of nodes routing pool key ≡ home_of nodes routing other name → pool ≡ other
  homes_apart nodes routing pool other key name r named below below' same =
      let first = has_home routing pool key r below in
      let second = has_home routing other name r below' in
      (L.stand_once routing pool other _ _ r first second (same_name nodes _ _ (named pool _ first) same)).0

  -- an item that a pool holds was stored after the issue of a delete, or the delete went to that pool or a later one
  held_after : (routing : RoutingView) (hops : List Hop) (w : WorldView) (item : Item) (d : OpId) (noreply : _) (issue place : ℕ) (by : Author) (pool : ℕ)
      → IsGrounded routing hops w → IsIssued w.history d (request.Delete item.key noreply) issue → At w.history place (entry.Stored by item.key item.flags item.block)
      → LegUpTo w.sent d item.key pool → IsSource w.sent item pool by → (issue < place) ⊎ LegFrom w.sent d item.key pool
  held_after routing hops w item d noreply issue place Beginning pool g issued stored up (from_beginning first) =
      inr (record { message = up.message; has = up.has; same_op = up.same_op; command = up.command; pool = omega arith })
  held_after routing hops w item d noreply issue place (By op) pool g issued stored up (from_set s) =
      g.sets_later op d item item pool place issue item.key noreply s stored issued

  -- what a get finds is fresh for it
  found : (routing : RoutingView) (hops : List Hop) (w : WorldView) (m : Message) (item : Item) → IsGrounded routing hops w → LegsShareHops w.sent → IsWellFormed w.history
      → IsFaithfulWorld w
      → Has w.sent m → m.sheet.command ≡ Get item.key → IsHeld w.sent w.history (pool_at m.sheet) item
      → (was : WasIssued w.history m.sheet.id.op) × IsFreshHit w.history item was.place (length w.history)
  found routing hops w m item g share formed f has is held =
      let get = g.gets_later m item.key has is in (
        get.was,
        record {
          place = held.place;
          stored = record { by = held.by; there = held.stored };
          before = at_within held.stored;
          after = λ d start done ack late.
              let early = answered_after formed ack.answered ack.issued in
              let reached : (other : Message) → Has w.sent other → other.sheet.id.op ≡ d → pool_at other.sheet ≡ pool_at m.sheet → start < held.place =
              λ other there op pool.
              let gone = f.deletes d item.key start done other ack there op in
              let below = held.unremoved other gone.place there pool
              (subst (λ o. At w.history gone.place (entry.Removed o other.sheet.side item.key)) (sym op) gone.there) in
              let later = gone.after in
              omega arith in
              let up = get.not_above d item.key ack.noreply start ack.issued (omega arith) in
              elim (held_after routing hops w item d ack.noreply start held.place held.by (pool_at m.sheet) g ack.issued held.stored up held.source) [
                | inl after ↦ after
                | inr from ↦
                    let alike = share from.message up.message from.has up.has (from.same_op ∙ sym up.same_op) in
                    elim (between (pool_at up.message.sheet) (pool_at from.message.sheet) (pool_at m.sheet) up.pool from.pool (pools_close from.message.sheet up.message.sheet alike)) [
                      | inl e ↦ reached up.message up.has up.same_op e
                      | inr e ↦ reached from.message from.has from.same_op e
                    ]
              ];
        },
      )

-- an item that is held elsewhere, or under another key than a delete's, stays as it was
other_held : (S : List Message) (H : List Entry) (m : Message) (c : NodeCommand) (pool : ℕ) (item : Item) → LegsShareHops S → Has S m → IsHeld S H pool item
    → ((key : List ℕ) → c ≡ Delete key → pool ≡ pool_at m.sheet → item.key ≡ key → ⊥) → IsHeld S (H ++ performed m.sheet c) pool item
other_held S H m (Get key) pool item share mine h apart = held_grows h (λ k there at new. has_none new)
other_held S H m (Set key flags exptime block) pool item share mine h apart = held_grows h (λ k there at new. let e = has_one new in cc)
other_held S H m (Delete key) pool item share mine h apart =
    held_grows h (λ k there at new.
    let e = has_one new in
    let op : k.sheet.id.op ≡ m.sheet.id.op = cc in
    let side : k.sheet.side ≡ m.sheet.side = cc in
    let same : item.key ≡ key = cc in
    let hop = share k m there mine op in
    apart key refl (sym at ∙ ap (λ (s : Side). pool_number k.sheet.hop s) side ∙ ap (λ hop. pool_number hop m.sheet.side) hop) same)

-- what a set leaves at its place
set_held : (S : List Message) (H : List Entry) (m : Message) (key : List ℕ) (flags : ℕ) (exptime : ℤ) (block : List ℕ) → Has S m → m.sheet.command ≡ Set key flags exptime block
    → IsHeld S (H ++ performed m.sheet (Set key flags exptime block)) (pool_at m.sheet) (record { key = key; flags = flags; block = block })
set_held S H m key flags exptime block has is = record {
  by = By m.sheet.id.op;
  place = length H;
  stored = at_new H (entry.Stored (By m.sheet.id.op) key flags block);
  source = from_set (record { message = m; has = has; same_op = refl; exptime = exptime; command = is; pool = refl });
  unremoved = λ k gone there at h. elim (at_last H (entry.Stored (By m.sheet.id.op) key flags block) h) [ inl e ↦ at_within e | inr e ↦ (let c = e.1 in cc) ];
}

-- an item of a node that performed a command
left_held : (S : List Message) (H : List Entry) (m : Message) (old new : Contents) (reply : LegReply) (c : NodeCommand) → LegsShareHops S → Has S m → m.sheet.command ≡ c
    → CacheStep old c reply new → (pool : ℕ) (key : List ℕ) (datum : Datum) → pool ≡ pool_at m.sheet → Holds new key datum
    → (Holds old key datum → IsHeld S H pool (record { key = key; flags = datum.flags; block = datum.block }))
    → IsHeld S (H ++ performed m.sheet c) pool (record { key = key; flags = datum.flags; block = datum.block })
left_held S H m old new reply (Get asked) share has is step pool key datum here holds before =
    other_held S H m (Get asked) pool _ share has (before (after_get old asked reply new key datum step holds)) (λ k e. cc)
left_held S H m old new reply (Set set flags exptime block) share has is step pool key datum here holds before =
    elim (after_set old set flags exptime block reply new key datum step holds) [
      | inl same ↦
          let held = set_held S H m set flags exptime block has is in
          let item : record { key = set; flags = flags; block = block } ≡ record { key = key; flags = datum.flags; block = datum.block } =
          ap (λ k. record { key = k; flags = flags; block = block }) (sym (same.0))
          ∙ ap (λ (d : Datum). record { key = key; flags = d.flags; block = d.block }) (sym (same.1)) in
          subst (λ p. IsHeld S (H ++ performed m.sheet (Set set flags exptime block)) p (record { key = key; flags = datum.flags; block = datum.block })) (sym here)
          (subst (IsHeld S (H ++ performed m.sheet (Set set flags exptime block)) (pool_at m.sheet)) item held)
      | inr other ↦ other_held S H m (Set set flags exptime block) pool _ share has (before (other.1)) (λ k e. cc)
    ]
left_held S H m old new reply (Delete gone) share has is step pool key datum here holds before =
    let kept = after_delete old gone reply new key datum step holds in
    other_held S H m (Delete gone) pool _ share has (before (kept.1)) (λ k e at same. kept.0 (let d : gone ≡ k = cc in same ∙ sym d))

module _ (L : GroundLaws) where
  pub delivers_grounded : (routing : RoutingView) (hops : List Hop) (w : WorldView) (n now : ℕ) (note : Note) (new : WorldView) → Delivers w n now note new
      → LegsShareHops w.sent → IsWellFormed w.history → IsWellFormed new.history → IsFaithfulWorld w
      → ((number index : ℕ) → HasNode routing number index → node_number w.nodes (name_at routing number index) < length w.nodes)
      → IsGrounded routing hops w → IsGrounded routing hops new
  delivers_grounded routing hops w n now note new step share formed formed' f named g =
      let m = step.message in
      let S = w.sent in
      let H = w.history in
      let K = performed m.sheet m.sheet.command in
      let has : Has S m = record { place = n; there = step.sent } in
      let delivery : Delivery = record { message = n; reply = step.reply } in
      let written : Node = record { name = step.node.name; cache = step.left } in
      let nodes = slice_set w.nodes m.node written in
      let grown : IsWellFormed (H ++ K) = subst (λ (x : WorldView). IsWellFormed x.history) step.becomes formed' in
      let quiet : IssuesNothing K = no_issue_performed m.sheet m.sheet.command in
      let cached = L.cache step.node.cache step.left now m.sheet.command step.reply step.step in
      let home = λ (pool : ℕ) (key : List ℕ). number_written w.nodes m.node step.node written (name_at routing pool (place_of routing.hash (pool_of routing pool) key)) step.there.gets refl in
      let mine = g.pools m has in
      subst (IsGrounded routing hops) (sym step.becomes) (record {
        plan = g.plan;
        least = g.least;
        pools = g.pools;
        goes = λ k there. g.goes k there ∙ sym (home (pool_at k.sheet) (key_of_command k.sheet.command));
        reached = g.reached;
        reach_down = down_quiet hops g.reach_down quiet;
        sets_later = sets_quiet g.sets_later quiet;
        gets_later = gets_grow K g.gets_later;
        held = λ pool node key datum below at holds.
            let at' = subst (λ k. At nodes k node) (home pool key) at in
            elim (at_set w.nodes m.node written at') [
              | inl here ↦
                  let same : pool ≡ pool_at m.sheet = homes_apart L w.nodes routing pool (pool_at m.sheet) key (key_of_command m.sheet.command) g.plan.sound named below mine (here.0 ∙ g.goes m has) in
                  left_held S H m (contents_of step.node.cache.items) (contents_of step.left.items) step.reply m.sheet.command share has refl cached pool key datum same
                  (subst (λ (x : Node). Holds (contents_of x.cache.items) key datum) (here.1) holds)
                  (λ before. g.held pool step.node key datum below (subst (λ k. At w.nodes k step.node) (sym (here.0)) step.there) before)
              | inr there ↦
                  other_held S H m m.sheet.command pool _ share has (g.held pool node key datum below (there.1) holds)
                  (λ k is same equal. there.0 (
                  ap (λ x. home_of w.nodes routing x key) same ∙ ap (home_of w.nodes routing (pool_at m.sheet)) (equal ∙ sym (ap key_of_command is)) ∙ sym (g.goes m has)
                  ))
            ];
        fresh = λ k flags block c.
            elim (at_last w.replies delivery c.came) [
              | inl old ↦ hits_more L S w.replies H K grown g.fresh k flags block (record { number = c.number; from = c.from; came = old; was_sent = c.was_sent })
              | inr last ↦
                  let from : c.from ≡ n = ap (λ (x : Delivery). x.message) (last.1) in
                  let reply : step.reply ≡ leg.Hit flags block = ap (λ (x : Delivery). x.reply) (sym (last.1)) in
                  let same : k ≡ m = at_one (subst (λ i. At S i k) from c.was_sent) step.sent in
                  let hit = hit_was_there (contents_of step.node.cache.items) m.sheet.command flags block (contents_of step.left.items)
                  (subst (λ r. CacheStep (contents_of step.node.cache.items) m.sheet.command r (contents_of step.left.items)) reply cached) in
                  let held = g.held (pool_at m.sheet) step.node (key_of_command m.sheet.command) (record { flags = flags; block = block }) mine
                  (subst (λ i. At w.nodes i step.node) (g.goes m has) step.there) (hit.1) in
                  let got = found L routing hops w m (record { key = key_of_command m.sheet.command; flags = flags; block = block }) g share formed f has (hit.0) held in
                  let below = at_within (got.0).issued.there in
                  subst (λ (x : Message). (was : WasIssued (H ++ K) x.sheet.id.op)
                  × IsFreshHit (H ++ K) (record { key = key_of_command x.sheet.command; flags = flags; block = block }) was.place (length (H ++ K))) (sym same)
                  (still_issued K (got.0), fresh_more L H K _ _ grown (omega arith) (got.1))
            ];
      })

  -- what a node does answers nobody
  pub performed_safe : (H : List Entry) (sheet : LegSheet) (c : NodeCommand) → IsWellFormed (H ++ performed sheet c) → IsSafe H → IsSafe (H ++ performed sheet c)
  performed_safe H sheet (Get key) formed safe = subst IsSafe (sym (append-nil H)) safe
  performed_safe H sheet (Set key flags exptime block) formed safe = safe_quiet L H _ formed safe (λ get reply e. cc)
  performed_safe H sheet (Delete key) formed safe = safe_quiet L H _ formed safe (λ get reply e. cc)
