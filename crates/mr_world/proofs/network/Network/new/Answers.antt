use Rattle.std.proofs.Common.{List, map, fold, ap, subst, ◌∙◌, rules}
use Rattle.mr_clock.specs.Readings.{readings_at_first}
use Rattle.mr_world.specs.declared.setup.ProxySetup.{ProxySetup}
use Rattle.mr_world.specs.Setup.{ChainsMatch, hold, held_entry, proxies_from}
use Rattle.mr_world.proofs.network.Network.new.Goals as goal

pub returns : goal.returns
returns c =
    let s = c.args.setup in
    let parts = c.into_parts-proxies.ensures in
    record {
      begins = (
        record { chains = subst ChainsMatch c.proxies.ensures (c.chains_match.ensures.0 (search rules)); homes = c.in_ok-nodes.ensures.made.0 },
        record {
          readings = c.in_ok-readings.ensures ∙ ap (λ (l : List ProxySetup). readings_at_first (map (λ proxy. proxy.reading) l)) (c.deref.ensures.value ∙ parts.proxies);
          proxies = c.in_ok-proxies.ensures.proxies ∙ ap (proxies_from 0) parts.proxies;
          nodes = c.in_ok-history.ensures.nodes ∙ ap (fold hold c.in_ok-nodes.nodes) parts.held
              ∙ ap (λ nodes. fold hold nodes s.held) c.in_ok-nodes.ensures.made.1;
          sent = c.new.ensures.items;
          replies = c.new-2.ensures.items;
          history = c.in_ok-history.ensures.history ∙ ap (map held_entry) parts.held;
          same = c.in_ok-terms.ensures.same;
          new_empty = c.in_ok-terms.ensures.new_empty;
          least = c.in_ok-terms.ensures.least;
        },
      );
      sound = c.in_ok-proxies.ensures.sound;
      plans = c.in_ok-proxies.ensures.plans;
      numbers = c.in_ok-numbers.ensures;
      refused = tt;
    }
