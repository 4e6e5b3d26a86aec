use Rattle.std.proofs.Common.{refl}
use Rattle.mr_tool.proofs.run.give.Goals as goal

pub returns-in-Plan : goal.returns-in-Plan
returns-in-Plan g c = rw c.in-Plan.is (λ faults. (c.run_plan.ensures faults, refl))

pub returns-in-Timeline : goal.returns-in-Timeline
returns-in-Timeline g c = rw c.in-Timeline.is (λ faults. (c.run_timeline.ensures (g.I.Source.told c.args.input.now) faults, refl))

pub returns-in-Run : goal.returns-in-Run
returns-in-Run g c = rw c.in-Run.is (λ faults. (c.run_script.ensures faults, refl))

pub returns-in-Check : goal.returns-in-Check
returns-in-Check g c = rw c.in-Check.is (λ faults. (c.run_check.ensures faults, refl))

pub returns-in-Draw : goal.returns-in-Draw
returns-in-Draw g c = rw c.in-Draw.is (λ faults. (c.run_draw.ensures faults, refl))

pub returns-in-Upgrade : goal.returns-in-Upgrade
returns-in-Upgrade g c = rw c.in-Upgrade.is (λ faults. (c.run_upgrade.ensures faults, refl))

pub returns-in-Node : goal.returns-in-Node
returns-in-Node g c = rw c.in-Node.is (λ faults. c.run_node.ensures (g.S.Sources.told c.args.sources.now) (g.I.Source.told c.args.input.now) faults)

pub returns-in-Proxy : goal.returns-in-Proxy
returns-in-Proxy g c = rw c.in-Proxy.is (λ faults. c.run_proxy.ensures (g.I.Source.told c.args.input.now) faults)

pub returns-in-Watch : goal.returns-in-Watch
returns-in-Watch g c = rw c.in-Watch.is (λ faults. (c.run_watch.ensures (g.I.Source.told c.args.input.now) faults, refl))

pub returns-in-Canary : goal.returns-in-Canary
returns-in-Canary g c = rw c.in-Canary.is (λ faults. (c.run_canary.ensures (g.I.Source.told c.args.input.now) faults, refl))

pub returns-in-Explain : goal.returns-in-Explain
returns-in-Explain g c = rw c.in-Explain.is (λ faults. (c.run_explain.ensures (g.S.Sources.told c.args.sources.now) (g.I.Source.told c.args.input.now) faults, refl))
