-- Lemmas on what texts of addresses come to.
mod SoloLemmas
