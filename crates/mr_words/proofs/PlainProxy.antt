-- That words which plainly say a proxy are read as it.
use Rattle.std.proofs.Common.{◌≡◌, ap, inl, inr, refl, sym, subst, List, [], ◌∷◌, Some, codes}
use Rattle.clap.proofs.OnLiterals.{clap_on_literals}
use Rattle.clap.specs.Faults.{turn_fault}
use Rattle.clap.specs.Kinds.{Kinds, or_else}
use Rattle.clap.specs.Simple.{Shape, built_leaf, inherited, marked_built, with_leaf_noted}
use Rattle.clap.specs.Walk.{Held, Walk, walked, nothing_held, finished}
use Rattle.clap.specs.Words.{Row, Text, fault_of, subcommand_of}
use Rattle.mr_words.proofs.LoopLemmas.{by_threads, on_loops}
use Rattle.mr_words.proofs.PlainPlan.{IsTakenNumber, number_is_taken, value_taken}
use Rattle.mr_words.proofs.PlainWalk.{IsPlainWord, IsWalked, Leads, after_walk, all_walked, asking, flag_before, no_words, option_before, plain_word, standing, with_flag, with_given, with_named}
use Rattle.mr_words.specs.Command.{forever_rule, program_app, proxy_app}
use Rattle.mr_words.specs.Words.{Say, SaysPlainly, path_in}
use Rattle.mr_words.specs.declared.service_words.ProxyValues.{ProxyValues}
use Rattle.mr_words.specs.declared.words.Wanted.TheVariants.{Proxy}

-- the command `proxy` as it is built
abbrev leaf : Shape
leaf = built_leaf (inherited (with_leaf_noted (marked_built program_app.top)) proxy_app.top)

-- what is held after the name of the file, after where the proxy listens, and after each of the numbers behind it
abbrev held_1 : Text → Held
held_1 config = with_given leaf (codes "config") config nothing_held

abbrev held_2 : Text → Text → Held
held_2 config listen = with_given leaf (codes "listen") listen (held_1 config)

abbrev held_3 : Text → Text → Text → Held
held_3 config listen room = with_given leaf (codes "room") room (held_2 config listen)

abbrev held_4 : Text → Text → Text → Text → Held
held_4 config listen room clients = with_given leaf (codes "clients") clients (held_3 config listen room)

abbrev held_5 : Text → Text → Text → Text → Text → Held
held_5 config listen room clients turns = with_given leaf (codes "turns") turns (held_4 config listen room clients)

config_named : walked leaf.rules [] (standing nothing_held) (codes "--config") ≡ asking (codes "config") (with_named leaf (codes "config") nothing_held)
unfolding clap_on_literals
config_named = refl

-- the name of the file and where the proxy listens
module _ (config listen : Text) (config_plain : IsPlainWord config) (listen_plain : IsPlainWord listen) where
  listen_named : walked leaf.rules [] (standing (held_1 config)) (codes "--listen") ≡ asking (codes "listen") (with_named leaf (codes "listen") (held_1 config))
  unfolding clap_on_literals
  listen_named = refl

  -- the words of both, before others
  both_before : (rest : List Text) (end : Walk) → Leads leaf (standing (held_2 config listen)) rest end
      → Leads leaf (standing nothing_held) (codes "--config" ∷ config ∷ codes "--listen" ∷ listen ∷ rest) end
  both_before rest end more =
      option_before leaf (codes "--config") (codes "config") config nothing_held (with_named leaf (codes "config") nothing_held)
      (codes "--listen" ∷ listen ∷ rest) end config_named refl config_plain
      (option_before leaf (codes "--listen") (codes "listen") listen (held_1 config) (with_named leaf (codes "listen") (held_1 config)) rest end
      listen_named refl listen_plain more)

  abbrev short_words : List Text
  short_words = codes "--config" ∷ config ∷ codes "--listen" ∷ listen ∷ []

  abbrev short_end : Walk
  short_end = standing (held_2 config listen)

  short_end_taken : after_walk leaf short_end ≡ []
  unfolding clap_on_literals
  short_end_taken = refl

  short_walked : IsWalked leaf short_words short_end
  short_walked = all_walked leaf short_words short_end (both_before [] short_end (no_words leaf short_end)) short_end_taken

  short_taken : fault_of program_app (codes "proxy" ∷ short_words) ≡ []
  unfolding clap_on_literals
  short_taken = ap (λ (below : Kinds). or_else below []) short_walked.fits

  short_found : subcommand_of program_app (codes "proxy" ∷ short_words) ≡ Some (codes "proxy", finished leaf.rules (held_2 config listen))
  unfolding clap_on_literals
  short_found = ap (λ (w : Walk). Some (codes "proxy", finished leaf.rules w.held)) short_walked.ends

room_named : (config listen : Text) → walked leaf.rules [] (standing (held_2 config listen)) (codes "--room")
    ≡ asking (codes "room") (with_named leaf (codes "room") (held_2 config listen))
unfolding clap_on_literals
room_named config listen = refl

-- the numbers behind them
module _ (config listen room clients turns : Text) (config_plain : IsPlainWord config) (listen_plain : IsPlainWord listen) (room_taken : IsTakenNumber room)
    (clients_taken : IsTakenNumber clients) (turns_taken : IsTakenNumber turns) where
  abbrev numbers_said : List Text
  numbers_said = codes "--room" ∷ room ∷ codes "--clients" ∷ clients ∷ codes "--turns" ∷ turns ∷ []

  abbrev words : List Text
  words = codes "--config" ∷ config ∷ codes "--listen" ∷ listen ∷ numbers_said

  abbrev end : Walk
  end = standing (held_5 config listen room clients turns)

  clients_named : walked leaf.rules [] (standing (held_3 config listen room)) (codes "--clients")
      ≡ asking (codes "clients") (with_named leaf (codes "clients") (held_3 config listen room))
  unfolding clap_on_literals
  clients_named = refl

  turns_named : walked leaf.rules [] (standing (held_4 config listen room clients)) (codes "--turns")
      ≡ asking (codes "turns") (with_named leaf (codes "turns") (held_4 config listen room clients))
  unfolding clap_on_literals
  turns_named = refl

  clients_turn : turn_fault leaf [] (standing (held_3 config listen room)) (codes "--clients") ≡ []
  clients_turn = ap (λ (kinds : Kinds). or_else kinds []) (value_taken room room_taken.accepted)

  turns_turn : turn_fault leaf [] (standing (held_4 config listen room clients)) (codes "--turns") ≡ []
  turns_turn = ap (λ (kinds : Kinds). or_else kinds []) (value_taken clients clients_taken.accepted)

  end_taken : after_walk leaf end ≡ []
  unfolding clap_on_literals
  end_taken = ap (λ (kinds : Kinds). or_else kinds []) (value_taken turns turns_taken.accepted)

  after_clients : Leads leaf (standing (held_4 config listen room clients)) (codes "--turns" ∷ turns ∷ []) end
  after_clients =
      option_before leaf (codes "--turns") (codes "turns") turns (held_4 config listen room clients)
      (with_named leaf (codes "turns") (held_4 config listen room clients)) [] end turns_named turns_turn turns_taken.plain (no_words leaf end)

  after_room : Leads leaf (standing (held_3 config listen room)) (codes "--clients" ∷ clients ∷ codes "--turns" ∷ turns ∷ []) end
  after_room =
      option_before leaf (codes "--clients") (codes "clients") clients (held_3 config listen room)
      (with_named leaf (codes "clients") (held_3 config listen room)) (codes "--turns" ∷ turns ∷ []) end clients_named clients_turn clients_taken.plain after_clients

  after_listen : Leads leaf (standing (held_2 config listen)) numbers_said end
  after_listen =
      option_before leaf (codes "--room") (codes "room") room (held_2 config listen) (with_named leaf (codes "room") (held_2 config listen))
      (codes "--clients" ∷ clients ∷ codes "--turns" ∷ turns ∷ []) end (room_named config listen) refl room_taken.plain after_room

  words_walked : IsWalked leaf words end
  words_walked = all_walked leaf words end (both_before config listen config_plain listen_plain numbers_said end after_listen) end_taken

  words_taken : fault_of program_app (codes "proxy" ∷ words) ≡ []
  unfolding clap_on_literals
  words_taken = ap (λ (below : Kinds). or_else below []) words_walked.fits

  rows_found : subcommand_of program_app (codes "proxy" ∷ words) ≡ Some (codes "proxy", finished leaf.rules (held_5 config listen room clients turns))
  unfolding clap_on_literals
  rows_found = ap (λ (w : Walk). Some (codes "proxy", finished leaf.rules w.held)) words_walked.ends

-- how many requests may be under way, and that it goes on for good
module _ (config listen room : Text) (config_plain : IsPlainWord config) (listen_plain : IsPlainWord listen) (room_taken : IsTakenNumber room) where
  abbrev forever_said : List Text
  forever_said = codes "--room" ∷ room ∷ codes "--forever" ∷ []

  abbrev forever_words : List Text
  forever_words = codes "--config" ∷ config ∷ codes "--listen" ∷ listen ∷ forever_said

  abbrev held_forever : Held
  held_forever = with_flag leaf forever_rule (held_3 config listen room)

  abbrev forever_end : Walk
  forever_end = standing held_forever

  forever_named : walked leaf.rules [] (standing (held_3 config listen room)) (codes "--forever") ≡ forever_end
  unfolding clap_on_literals
  forever_named = refl

  forever_turn : turn_fault leaf [] (standing (held_3 config listen room)) (codes "--forever") ≡ []
  forever_turn = ap (λ (kinds : Kinds). or_else (or_else kinds []) []) (value_taken room room_taken.accepted)

  forever_end_taken : after_walk leaf forever_end ≡ []
  unfolding clap_on_literals
  forever_end_taken = refl

  forever_after_listen : Leads leaf (standing (held_2 config listen)) forever_said forever_end
  forever_after_listen =
      option_before leaf (codes "--room") (codes "room") room (held_2 config listen) (with_named leaf (codes "room") (held_2 config listen))
      (codes "--forever" ∷ []) forever_end (room_named config listen) refl room_taken.plain
      (flag_before leaf (codes "--forever") (held_3 config listen room) held_forever [] forever_end forever_named forever_turn (no_words leaf forever_end))

  forever_walked : IsWalked leaf forever_words forever_end
  forever_walked = all_walked leaf forever_words forever_end
      (both_before config listen config_plain listen_plain forever_said forever_end forever_after_listen) forever_end_taken

  forever_taken : fault_of program_app (codes "proxy" ∷ forever_words) ≡ []
  unfolding clap_on_literals
  forever_taken = ap (λ (below : Kinds). or_else below []) forever_walked.fits

  forever_found : subcommand_of program_app (codes "proxy" ∷ forever_words) ≡ Some (codes "proxy", finished leaf.rules held_forever)
  unfolding clap_on_literals
  forever_found = ap (λ (w : Walk). Some (codes "proxy", finished leaf.rules w.held)) forever_walked.ends

-- words that plainly say a proxy say it to `clap`
pub proxy_said : (said : List Text) (values : ProxyValues) → SaysPlainly said (Proxy values) → Say said (Proxy values)
proxy_said said values (inl says) =
    let config = values.config.now in
    let listen = values.listen.now in
    let config_plain = plain_word config says.config_is_none in
    let listen_plain = plain_word listen says.listen_is_none in
    let rows : List Row = finished leaf.rules (held_2 config listen) in
    record {
      fits = subst (λ (w : List Text). fault_of program_app w ≡ []) (sym says.words_are) (short_taken config listen config_plain listen_plain);
      finds = (
        rows,
        subst (λ (w : List Text). subcommand_of program_app w ≡ Some (codes "proxy", rows)) (sym says.words_are)
            (short_found config listen config_plain listen_plain),
        record { config_is = refl; listen_is = refl; room_is = says.room_is; clients_is = says.clients_is; turns_is = says.turns_is; leg_is = says.leg_is; idle_is = says.idle_is; metrics_is = sym (ap path_in says.metrics_is); loops_are = by_threads rows values.on_loops refl (record { no_loops = refl; no_most = refl; no_quiet = refl }) says.loops_are },
      );
    }
proxy_said said values (inr (inl says)) =
    let config = values.config.now in
    let listen = values.listen.now in
    let config_plain = plain_word config says.config_is_none in
    let listen_plain = plain_word listen says.listen_is_none in
    let room_taken = number_is_taken says.room values.room says.room_is in
    let clients_taken = number_is_taken says.clients values.clients says.clients_is in
    let turns_taken = number_is_taken says.turns values.turns says.turns_is in
    let rows : List Row = finished leaf.rules (held_5 config listen says.room says.clients says.turns) in
    record {
      fits = subst (λ (w : List Text). fault_of program_app w ≡ []) (sym says.words_are)
          (words_taken config listen says.room says.clients says.turns config_plain listen_plain room_taken clients_taken turns_taken);
      finds = (
        rows,
        subst (λ (w : List Text). subcommand_of program_app w ≡ Some (codes "proxy", rows)) (sym says.words_are)
            (rows_found config listen says.room says.clients says.turns config_plain listen_plain room_taken clients_taken turns_taken),
        record { config_is = refl; listen_is = refl; room_is = says.room_is; clients_is = says.clients_is; turns_is = says.turns_is; leg_is = says.leg_is; idle_is = says.idle_is; metrics_is = sym (ap path_in says.metrics_is); loops_are = by_threads rows values.on_loops refl (record { no_loops = refl; no_most = refl; no_quiet = refl }) says.loops_are },
      );
    }
proxy_said said values (inr (inr says)) =
    let config = values.config.now in
    let listen = values.listen.now in
    let config_plain = plain_word config says.config_is_none in
    let listen_plain = plain_word listen says.listen_is_none in
    let room_taken = number_is_taken says.room values.room says.room_is in
    let rows : List Row = finished leaf.rules (held_forever config listen says.room config_plain listen_plain room_taken) in
    record {
      fits = subst (λ (w : List Text). fault_of program_app w ≡ []) (sym says.words_are)
          (forever_taken config listen says.room config_plain listen_plain room_taken);
      finds = (
        rows,
        subst (λ (w : List Text). subcommand_of program_app w ≡ Some (codes "proxy", rows)) (sym says.words_are)
            (forever_found config listen says.room config_plain listen_plain room_taken),
        record { config_is = refl; listen_is = refl; room_is = (says.room_is, says.room_fits); clients_is = says.clients_is; turns_is = says.turns_is; leg_is = says.leg_is; idle_is = says.idle_is; metrics_is = sym (ap path_in says.metrics_is); loops_are = on_loops rows values.on_loops refl (record { loops_are = tt; most_are = refl; quiet_is = refl }) says.loops_are },
      );
    }
