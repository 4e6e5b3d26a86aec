use Rattle.std.proofs.Common.{subst}
use Rattle.std.specs.Net.Socket.{v4_ip, v4_port}
use Rattle.std.proofs.lemmas.Str.Pattern.{IsSplitOnceResult}
use Rattle.mr_sockets.proofs.AddressLemmas.{no_address, only_parts}
use Rattle.mr_sockets.proofs.address.address_of.Goals as goal

pub returns-in_default : goal.returns-in_default
returns-in_default c = no_address c.args.text.now (subst (IsSplitOnceResult 58 c.args.text.now) c.in_default.is c.split_once.ensures.cases)

pub returns-in_default-host_of : goal.returns-in_default-host_of
returns-in_default-host_of c = λ address is.
    let some = subst (IsSplitOnceResult 58 c.args.text.now) c.in-Some.is c.split_once.ensures.cases in
    c.in_default-host_of.ensures (v4_ip address) (only_parts c.args.text.now (c.in-Some.host, c.in-Some.digits) some address is).0

pub returns-in-None : goal.returns-in-None
returns-in-None c = λ address is.
    let some = subst (IsSplitOnceResult 58 c.args.text.now) c.in-Some.is c.split_once.ensures.cases in
    let parts = only_parts c.args.text.now (c.in-Some.host, c.in-Some.digits) some address is in
    c.in-None.ensures (v4_port address) parts.2 parts.1
