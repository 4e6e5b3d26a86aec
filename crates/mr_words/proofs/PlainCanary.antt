-- That words which plainly say a canary are read as it.
use Rattle.std.proofs.Common.{◌≡◌, ap, inl, inr, refl, sym, subst, List, [], ◌∷◌, None, Some, false, codes}
use Rattle.clap.proofs.OnLiterals.{clap_on_literals}
use Rattle.clap.specs.Faults.{turn_fault}
use Rattle.clap.specs.Kinds.{Kinds, or_else}
use Rattle.clap.specs.Simple.{Shape, built_leaf, inherited, marked_built, with_leaf_noted}
use Rattle.clap.specs.Walk.{Held, Walk, positional, walked, nothing_held, settled, finished}
use Rattle.clap.specs.Words.{Row, Text, fault_of, subcommand_of}
use Rattle.mr_words.proofs.PlainWalk.{IsPlainWord, IsWalked, after_walk, all_walked, asking, flag_before, no_words, option_before, plain_word, standing, with_flag, with_given, with_named, word_before}
use Rattle.mr_words.specs.Command.{canary_app, flag_rule, program_app}
use Rattle.mr_words.specs.Words.{IsSpan, Say, SaysCanary}
use Rattle.mr_words.specs.declared.canary_words.CanaryValues.{CanaryValues}
use Rattle.mr_words.specs.declared.canary_words.Span.{Span}
use Rattle.mr_words.specs.declared.words.Wanted.TheVariants.{Canary}

-- the command `canary` as it is built
abbrev leaf : Shape
leaf = built_leaf (inherited (with_leaf_noted (marked_built program_app.top)) canary_app.top)

-- what is held after the name of the file, and behind it after `--until-migrated`
abbrev held_1 : Text → Held
held_1 config = with_given leaf (codes "config") config nothing_held

abbrev held_until : Text → Held
held_until config = with_flag leaf (flag_rule (codes "until-migrated")) (held_1 config)

-- what is held after the proxy, and where the walk stands then
abbrev with_proxy : Text → Held → Held
with_proxy proxy h = record (settled leaf.rules h) { pending = Some (codes "proxy", proxy ∷ []) }

abbrev after_proxy : Held → Walk
after_proxy h = record { held = h; waiting = positional; position = 1; is_trailing = false; stopped = None }

config_named : walked leaf.rules [] (standing nothing_held) (codes "--config") ≡ asking (codes "config") (with_named leaf (codes "config") nothing_held)
unfolding clap_on_literals
config_named = refl

-- the name of the file and a proxy alone
module _ (config proxy : Text) (config_plain : IsPlainWord config) (proxy_plain : IsPlainWord proxy) where
  abbrev short_words : List Text
  short_words = codes "--config" ∷ config ∷ proxy ∷ []

  abbrev short_end : Walk
  short_end = after_proxy (with_proxy proxy (held_1 config))

  short_proxy_walked : walked leaf.rules [] (standing (held_1 config)) proxy ≡ short_end
  unfolding clap_on_literals
  short_proxy_walked = rw (proxy_plain.dashes, proxy_plain.long, proxy_plain.short) refl

  short_proxy_turn : turn_fault leaf [] (standing (held_1 config)) proxy ≡ []
  unfolding clap_on_literals
  short_proxy_turn = rw (proxy_plain.dashes, proxy_plain.long, proxy_plain.short) refl

  short_end_taken : after_walk leaf short_end ≡ []
  unfolding clap_on_literals
  short_end_taken = refl

  short_walked : IsWalked leaf short_words short_end
  short_walked = all_walked leaf short_words short_end
      (option_before leaf (codes "--config") (codes "config") config nothing_held (with_named leaf (codes "config") nothing_held) (proxy ∷ []) short_end
      config_named refl config_plain
      (word_before leaf proxy (standing (held_1 config)) short_end [] short_end short_proxy_walked short_proxy_turn (no_words leaf short_end)))
      short_end_taken

  short_taken : fault_of program_app (codes "canary" ∷ short_words) ≡ []
  unfolding clap_on_literals
  short_taken = ap (λ (below : Kinds). or_else below []) short_walked.fits

  short_found : subcommand_of program_app (codes "canary" ∷ short_words) ≡ Some (codes "canary", finished leaf.rules (with_proxy proxy (held_1 config)))
  unfolding clap_on_literals
  short_found = ap (λ (w : Walk). Some (codes "canary", finished leaf.rules w.held)) short_walked.ends

-- `--until-migrated` between them
module _ (config proxy : Text) (config_plain : IsPlainWord config) (proxy_plain : IsPlainWord proxy) where
  abbrev words : List Text
  words = codes "--config" ∷ config ∷ codes "--until-migrated" ∷ proxy ∷ []

  abbrev end : Walk
  end = after_proxy (with_proxy proxy (held_until config))

  until_named : walked leaf.rules [] (standing (held_1 config)) (codes "--until-migrated") ≡ standing (held_until config)
  unfolding clap_on_literals
  until_named = refl

  proxy_walked : walked leaf.rules [] (standing (held_until config)) proxy ≡ end
  unfolding clap_on_literals
  proxy_walked = rw (proxy_plain.dashes, proxy_plain.long, proxy_plain.short) refl

  proxy_turn : turn_fault leaf [] (standing (held_until config)) proxy ≡ []
  unfolding clap_on_literals
  proxy_turn = rw (proxy_plain.dashes, proxy_plain.long, proxy_plain.short) refl

  end_taken : after_walk leaf end ≡ []
  unfolding clap_on_literals
  end_taken = refl

  words_walked : IsWalked leaf words end
  words_walked = all_walked leaf words end
      (option_before leaf (codes "--config") (codes "config") config nothing_held (with_named leaf (codes "config") nothing_held)
      (codes "--until-migrated" ∷ proxy ∷ []) end config_named refl config_plain
      (flag_before leaf (codes "--until-migrated") (held_1 config) (held_until config) (proxy ∷ []) end until_named refl
      (word_before leaf proxy (standing (held_until config)) end [] end proxy_walked proxy_turn (no_words leaf end))))
      end_taken

  words_taken : fault_of program_app (codes "canary" ∷ words) ≡ []
  unfolding clap_on_literals
  words_taken = ap (λ (below : Kinds). or_else below []) words_walked.fits

  rows_found : subcommand_of program_app (codes "canary" ∷ words) ≡ Some (codes "canary", finished leaf.rules (with_proxy proxy (held_until config)))
  unfolding clap_on_literals
  rows_found = ap (λ (w : Walk). Some (codes "canary", finished leaf.rules w.held)) words_walked.ends

-- words that plainly say a canary say it to `clap`
pub canary_said : (said : List Text) (values : CanaryValues) → SaysCanary said values → Say said (Canary values)
canary_said said values (inl says) =
    let config = values.config.now in
    let config_plain = plain_word config says.config_is_none in
    let proxy_plain = plain_word says.proxy says.proxy_is_none in
    let rows : List Row = finished leaf.rules (with_proxy says.proxy (held_1 config)) in
    record {
      fits = subst (λ (w : List Text). fault_of program_app w ≡ []) (sym says.words_are) (short_taken config says.proxy config_plain proxy_plain);
      finds = (
        rows,
        subst (λ (w : List Text). subcommand_of program_app w ≡ Some (codes "canary", rows)) (sym says.words_are)
            (short_found config says.proxy config_plain proxy_plain),
        record {
          config_is = refl;
          span_is = subst (λ (s : Span). IsSpan rows s) (sym says.span_is) (refl, refl);
          clients_are = says.usual.clients_are;
          keys_are = says.usual.keys_are;
          rate_is = says.usual.rate_is;
          prefix_is = says.usual.prefix_is;
          json_is = says.usual.json_is;
          proxies_are = ap (λ (texts : List Text). Some texts) (sym says.usual.proxies_are);
        },
      );
    }
canary_said said values (inr says) =
    let config = values.config.now in
    let config_plain = plain_word config says.config_is_none in
    let proxy_plain = plain_word says.proxy says.proxy_is_none in
    let rows : List Row = finished leaf.rules (with_proxy says.proxy (held_until config)) in
    record {
      fits = subst (λ (w : List Text). fault_of program_app w ≡ []) (sym says.words_are) (words_taken config says.proxy config_plain proxy_plain);
      finds = (
        rows,
        subst (λ (w : List Text). subcommand_of program_app w ≡ Some (codes "canary", rows)) (sym says.words_are)
            (rows_found config says.proxy config_plain proxy_plain),
        record {
          config_is = refl;
          span_is = subst (λ (s : Span). IsSpan rows s) (sym says.span_is) (refl, refl);
          clients_are = says.usual.clients_are;
          keys_are = says.usual.keys_are;
          rate_is = says.usual.rate_is;
          prefix_is = says.usual.prefix_is;
          json_is = says.usual.json_is;
          proxies_are = ap (λ (texts : List Text). Some texts) (sym says.usual.proxies_are);
        },
      );
    }
