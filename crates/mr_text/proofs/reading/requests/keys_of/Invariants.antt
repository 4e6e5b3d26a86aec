use Rattle.std.proofs.Common.{◌≡◌, ◌++◌, length, All}
use Rattle.mr_lines.specs.Words.{words_of}
use Rattle.mr_text.specs.Key.{IsKey}
use Rattle.mr_text.proofs.reading.requests.keys_of.Given as goal

-- the keys so far and the words left are all the words
abbrev pub invariant-loop-word : goal.invariant-loop-word
invariant-loop-word l = record {
  whole : l.keys.items ++ words_of l.rest ≡ words_of l.words;
  good : All IsKey (words_of l.rest);
}

abbrev pub decreases-loop-word : goal.decreases-loop-word
decreases-loop-word l = length l.rest
