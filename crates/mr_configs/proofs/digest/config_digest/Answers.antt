use Rattle.std.proofs.Common.{string_bytes}
use Rattle.serde_json.specs.View.{view}
use Rattle.mr_configs.proofs.DigestLemmas.{digest_of_value, lacks_memory}
use Rattle.mr_configs.proofs.digest.config_digest.Goals as goal

pub returns-clause-digest : goal.returns-clause-digest
returns-clause-digest c = record {
  value = view c.in_ok-value.value;
  text = string_bytes c.in_ok-text.text;
  json = c.in_ok-value.ensures.value;
  written = record {
    whole = c.in_ok-text.ensures.text;
    reads_back = c.in_ok-text.ensures.reads_back c.in_ok-value.ensures.nests;
  };
  digits = rw c.as_str.ensures.value at c.in_ok-digits_of_text.ensures;
}

pub returns-clause-exact : goal.returns-clause-exact
returns-clause-exact c = digest_of_value _ _ (returns-clause-digest c)

pub returns-in_err-text-clause-refused : goal.returns-in_err-text-clause-refused
returns-in_err-text-clause-refused c =
    lacks_memory _ (view c.in_ok-value.value) c.from_residual-in_err-text.result c.in_ok-value.ensures.value
    c.from_residual-in_err-text.ensures.1

pub returns-in_err-digits_of_text-clause-refused : goal.returns-in_err-digits_of_text-clause-refused
returns-in_err-digits_of_text-clause-refused c =
    lacks_memory _ (view c.in_ok-value.value) c.from_residual-in_err-digits_of_text.result c.in_ok-value.ensures.value
    c.from_residual-in_err-digits_of_text.ensures.1
