use Rattle.mr_streams.proofs.Safety.{bytes_safe}
use Rattle.mr_streams.proofs.laws.bytes_are_safe.Goals as goal

pub returns : goal.returns
returns c = λ setup first last ticks plans texts starts run premises.
    bytes_safe c.headline.ensures c.streams_refine_the_world.ensures setup first last ticks plans texts starts run premises
