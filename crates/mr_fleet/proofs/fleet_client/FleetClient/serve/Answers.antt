use Rattle.std.proofs.Common.{[], refl, ap}
use Rattle.mr_node.specs.Session.{station}
use Rattle.mr_sessions.specs.Account.{account}
use Rattle.mr_fleet.specs.Links.{LinkCarriersView}
use Rattle.mr_fleet.proofs.fleet_client.FleetClient.serve.Goals as goal

pub after_session-requires : goal.after_session-requires
after_session-requires g c = record {
  reader = g.S.Source.told c.args.self.reader;
  before = station c.args.self.clock (account 0 [] c.new-carriers.result.told) (g.W.Sink.told c.args.self.writer);
  after = station c.serve_client-ended.new.clock (account c.serve_client-ended.result.share c.serve_client-ended.result.answers.items c.serve_client-ended.new.carriers.told) (g.W.Sink.told c.serve_client-ended.new.writer);
  unread = c.args.self.unread;
  unwritten = c.args.self.unwritten;
  begins = ap (λ (c : LinkCarriersView). account 0 [] c.told) c.new-carriers.ensures;
  accounts = refl;
  writes = refl;
  session = c.serve_client-ended.ensures.session;
  share = c.serve_client-ended.ensures.share refl;
  given_up = c.serve_client-ended.ensures.given_up;
  within = c.serve_client-ended.ensures.reads;
  spent = c.serve_client-ended.ensures.spent;
  read_fault = c.serve_client-ended.ensures.read_fault;
  no_read_fault = c.serve_client-ended.ensures.no_read_fault;
  write_fault = c.serve_client-ended.ensures.write_fault;
  no_write_fault = c.serve_client-ended.ensures.no_write_fault;
}
