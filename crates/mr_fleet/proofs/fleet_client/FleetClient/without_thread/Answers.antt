use Rattle.std.proofs.Common.{true}
use Rattle.mr_sessions.specs.Asking.{desk_rules}
use Rattle.mr_fleet.proofs.ClientEndLemmas.{had_no_thread}
use Rattle.mr_fleet.proofs.fleet_client.FleetClient.without_thread.Goals as goal

pub of-requires : goal.of-requires
of-requires g c =
    had_no_thread (desk_rules g.K.Clock.reads g.K.Clock.failures g.C.Carrier.gave true) c.args.self.turns (g.S.Source.told c.args.self.reader) (g.W.Sink.told c.args.self.writer) _ _
    c.args.self.unread c.args.self.unwritten c.share.ensures c.new.ensures.items
