-- What is denied while the clock gives no reading keeps the places, and asks no cache.
use Rattle.std.proofs.Common.{◌≡◌, ℕ, ◌⊎◌, inl, inr, List, [], ◌∷◌, ◌++◌, refl, ap, ◌∙◌}
use Rattle.mr_node.specs.Output.{Exchange}
use Rattle.mr_node.specs.Output.Exchange.{Asked, Unknown}
use Rattle.mr_loop.specs.declared.asker.Limits.{Limits}
use Rattle.mr_loop.specs.declared.asking.Pause.{Pause}
use Rattle.mr_loop.specs.declared.asking.Pause.TheVariants.{NeedsBytes, NeedsRoom, NeedsReader, NeedsQueue, NeedsMemory, IsDone}
use Rattle.mr_loop.specs.declared.node.client.NodeClient.{NodeClient}
use Rattle.mr_loop.specs.declared.node.counts.ServedCounts.{ServedCounts}
use Rattle.mr_loop.specs.declared.node.serving.NodePause.{NodePause}
use Rattle.mr_loop.specs.NoReading.{Denying, DeniesOne, DeniesAll, DeniesOn, StopsDenying, denied_for}
use Rattle.mr_loop.specs.node.Cache.{clock_fails}
use Rattle.mr_loop.specs.node.Serving.{AsksOnce, AsksInOrder, ServesSome, ServesOn, IsOver, seat}
use Rattle.mr_loop.proofs.KeptLemmas.{places, kept_by}

kept_denied : (limits : Limits) (client : ℕ) (old new : Denying) → DeniesOne limits client old new → places new.front ≡ places old.front
kept_denied limits client old new one = kept_by (denied_for client one.input) old.front new.front one.told

kept_each : (limits : Limits) (client : ℕ) (old new : Denying) → DeniesAll limits client old new → places new.front ≡ places old.front
kept_each limits client old new DeniesAll.starts = refl
kept_each limits client old new (DeniesAll.goes_on {between} before one) =
    kept_denied limits client between new one ∙ kept_each limits client old between before

kept_stop : (limits : Limits) (client : ℕ) (pause : Pause) (old new : Denying) → StopsDenying limits client pause old new
    → places new.front ≡ places old.front
kept_stop limits client NeedsRoom old new s = absurd s
kept_stop limits client (NeedsQueue number) old new s = absurd s
kept_stop limits client NeedsReader old new s = ap (λ (d : Denying). places d.front) s.1
kept_stop limits client NeedsBytes old new s = kept_by [] old.front new.front s.1.same_front
kept_stop limits client IsDone old new s = kept_by [] old.front new.front s.1.same_front
kept_stop limits client NeedsMemory old new s = kept_by [] old.front new.front s.same_front

-- what is denied keeps the places
pub kept_denying : (limits : Limits) (client : ℕ) (pause : Pause) (old new : Denying) → DeniesOn limits client pause old new
    → places new.front ≡ places old.front
kept_denying limits client pause old new d =
    kept_stop limits client pause d.between new d.stops ∙ kept_each limits client old d.between d.did

module _ {C N : Type 0} (cache : C) where
  asks_once : (old new : N) (exchange : Exchange) → AsksOnce {C = N} clock_fails 0 old exchange new → AsksOnce {C = C} clock_fails 0 cache exchange cache
  asks_once old new (Asked request told) asks = (asks.0, (asks.1.0, refl), asks.2)
  asks_once old new Unknown asks = refl

  asks_none : (old new : N) (exchanges : List Exchange) → AsksInOrder {C = N} clock_fails 0 old exchanges new
      → AsksInOrder {C = C} clock_fails 0 cache exchanges cache
  asks_none old new exchanges AsksInOrder.begins = AsksInOrder.begins
  asks_none old new exchanges (AsksInOrder.asks {between = between} {exchanges = before} exchange asked one) =
      AsksInOrder.asks exchange (asks_none old between before asked) (asks_once between new exchange one)

  serves_none : (most : ℕ) (old new : N) (client client' : NodeClient) (counts counts' : ServedCounts)
      → ServesSome {C = N} clock_fails 0 most (seat old client counts) (seat new client' counts') ⊎ IsOver (seat old client counts) (seat new client' counts')
      → ServesSome {C = C} clock_fails 0 most (seat cache client counts) (seat cache client' counts') ⊎ IsOver (seat cache client counts) (seat cache client' counts')
  serves_none most old new client client' counts counts' (inl some) = inl (record {
    exchanges = some.exchanges;
    bytes = some.bytes;
    rest = some.rest;
    answer = some.answer;
    is_open = some.is_open;
    splits = some.splits;
    reads = some.reads;
    asks = asks_none old new some.exchanges some.asks;
    within = some.within;
    tells = some.tells;
    counted = some.counted;
    leaves = some.leaves;
    same_end = some.same_end;
  })
  serves_none most old new client client' counts counts' (inr over) = inr (record {
    over = over.over;
    same_cache = refl;
    same_inbox = over.same_inbox;
    same_told = over.same_told;
    same_counts = over.same_counts;
  })

  -- what is served by what stands in the place of a cache is served by that cache, which isn't asked
  pub serves_without : (most : ℕ) (pause : NodePause) (old new : N) (client client' : NodeClient) (counts counts' : ServedCounts)
      → ServesOn {C = N} clock_fails 0 most pause (seat old client counts) (seat new client' counts')
      → ServesOn {C = C} clock_fails 0 most pause (seat cache client counts) (seat cache client' counts')
  serves_without most pause old new client client' counts counts' on =
      record { serves = serves_none most old new client client' counts counts' on.serves; stops = on.stops }
