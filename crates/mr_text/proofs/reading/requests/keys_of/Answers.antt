use Rattle.std.proofs.Common.{rules, ◌≡◌, ℕ, suc, List, [], ◌∷◌, ◌++◌, All, append_assoc, sym, ◌∙◌, ap, subst, arith}
use Rattle.mr_lines.specs.Words.{words_of}
use Rattle.mr_text.specs.Key.{IsKey, AreFew}
use Rattle.mr_text.proofs.Fitting.{few_keys}
use Rattle.mr_text.proofs.reading.requests.keys_of.Goals as goal

All-behind : (x : List ℕ) (xs : List (List ℕ)) → All IsKey (x ∷ xs) → All IsKey xs
All-behind x xs h = λ k d within. h (suc k) d (omega arith)

pub loop-word-preserved : goal.loop-word-preserved
loop-word-preserved c = record {
  whole = rw (c.in_ok-push.ensures.items, c.in_ok-of.ensures)
      (append_assoc c.loop-word.keys.items (c.in-Some.word.now ∷ []) (words_of c.in-Some.after.now)
      ∙ ap (λ s. c.loop-word.keys.items ++ s) (sym c.in-Some.ensures.words) ∙ c.loop-word.invariant.whole);
  good = All-behind c.in-Some.word.now (words_of c.in-Some.after.now) (subst (All IsKey) c.in-Some.ensures.words c.loop-word.invariant.good);
}

pub of-requires-2-clause-few : goal.of-requires-2-clause-few
of-requires-2-clause-few c =
    let all : words_of c.args.words.now ≡ c.loop-word.keys.items = search rules in
    subst AreFew all (few_keys (words_of c.args.words.now) c.requires.keys c.requires.fit)
