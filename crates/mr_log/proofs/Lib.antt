mod KindLemmas
mod WaitingLemmas
mod RunLemmas
mod ApartLemmas
mod NodeLemmas
mod TextLemmas
mod TimeLemmas
