use Rattle.mr_streams.proofs.laws.no_canary_convicts.Goals as goal

pub returns : goal.returns
returns c = λ setup first last ticks plans texts starts run premises names notes seen view unlike get.
    c.no_false_alarm.ensures names last.history notes seen view
    (c.sets_are_performed_once.ensures setup first last ticks plans texts starts run premises names unlike)
    (c.bytes_are_safe.ensures setup first last ticks plans texts starts run premises) get
