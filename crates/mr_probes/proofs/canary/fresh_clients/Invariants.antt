use Rattle.std.proofs.Common.{◌≡◌, replicate}
use Rattle.mr_probes.specs.declared.client.Client.TheVariants.{Down}
use Rattle.mr_probes.proofs.canary.fresh_clients.Given as goal

abbrev pub invariant-loop : goal.invariant-loop
invariant-loop l = l.fresh.items ≡ replicate l.counter Down
