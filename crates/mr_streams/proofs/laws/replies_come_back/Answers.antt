use Rattle.mr_streams.proofs.Taking.{bytes_taken}
use Rattle.mr_streams.proofs.laws.replies_come_back.Goals as goal

pub returns : goal.returns
returns c = λ messages deliveries w number now piece later end old new front front' going awaits takes.
    bytes_taken (record { free = c.replies_are_prefix_free.ensures; reads = c.canonical_reply_is_read.ensures })
    messages deliveries w number now piece later end old new front front' going awaits takes
