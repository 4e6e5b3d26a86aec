mod LabelLemmas
mod NumberLemmas
