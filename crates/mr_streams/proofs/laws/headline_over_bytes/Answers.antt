use Rattle.mr_streams.proofs.laws.headline_over_bytes.Goals as goal

pub returns : goal.returns
returns c = λ setup first last ticks plans texts starts run premises.
    (c.bytes_are_safe.ensures setup first last ticks plans texts starts run premises, c.clients_are_served.ensures setup first last ticks starts run)
