-- That words which plainly say a node are read as it.
use Rattle.std.proofs.Common.{◌≡◌, ap, inl, inr, refl, sym, subst, List, [], ◌∷◌, Some, codes}
use Rattle.clap.proofs.OnLiterals.{clap_on_literals}
use Rattle.clap.specs.Faults.{turn_fault}
use Rattle.clap.specs.Kinds.{Kinds, or_else}
use Rattle.clap.specs.Simple.{Shape, built_leaf, inherited, marked_built, with_leaf_noted}
use Rattle.clap.specs.Walk.{Held, Walk, walked, nothing_held, finished}
use Rattle.clap.specs.Words.{Row, Text, fault_of, subcommand_of}
use Rattle.mr_words.proofs.LoopLemmas.{by_threads, on_loops}
use Rattle.mr_words.proofs.PlainPlan.{IsTakenNumber, number_is_taken, value_taken}
use Rattle.mr_words.proofs.PlainWalk.{IsPlainWord, IsWalked, Leads, after_walk, all_walked, asking, flag_before, no_words, option_before, plain_word, standing, with_flag, with_given, with_named}
use Rattle.mr_words.specs.Command.{forever_rule, node_app, program_app}
use Rattle.mr_words.specs.Words.{Say, SaysPlainly, path_in}
use Rattle.mr_words.specs.declared.service_words.NodeValues.{NodeValues}
use Rattle.mr_words.specs.declared.words.Wanted.TheVariants.{Node}

-- the command `node` as it is built
abbrev leaf : Shape
leaf = built_leaf (inherited (with_leaf_noted (marked_built program_app.top)) node_app.top)

-- what is held after where the node listens, and after each of the numbers behind it
abbrev held_1 : Text → Held
held_1 listen = with_given leaf (codes "listen") listen nothing_held

abbrev held_2 : Text → Text → Held
held_2 listen capacity = with_given leaf (codes "capacity") capacity (held_1 listen)

abbrev held_3 : Text → Text → Text → Held
held_3 listen capacity clients = with_given leaf (codes "clients") clients (held_2 listen capacity)

abbrev held_4 : Text → Text → Text → Text → Held
held_4 listen capacity clients turns = with_given leaf (codes "turns") turns (held_3 listen capacity clients)

listen_named : walked leaf.rules [] (standing nothing_held) (codes "--listen") ≡ asking (codes "listen") (with_named leaf (codes "listen") nothing_held)
unfolding clap_on_literals
listen_named = refl

capacity_named : (listen : Text) → walked leaf.rules [] (standing (held_1 listen)) (codes "--capacity")
    ≡ asking (codes "capacity") (with_named leaf (codes "capacity") (held_1 listen))
unfolding clap_on_literals
capacity_named listen = refl

-- where the node listens alone
module _ (listen : Text) (listen_plain : IsPlainWord listen) where
  abbrev short_words : List Text
  short_words = codes "--listen" ∷ listen ∷ []

  short_end : after_walk leaf (standing (held_1 listen)) ≡ []
  unfolding clap_on_literals
  short_end = refl

  short_walked : IsWalked leaf short_words (standing (held_1 listen))
  short_walked = all_walked leaf short_words (standing (held_1 listen))
      (option_before leaf (codes "--listen") (codes "listen") listen nothing_held (with_named leaf (codes "listen") nothing_held) [] (standing (held_1 listen))
      listen_named refl listen_plain (no_words leaf (standing (held_1 listen)))) short_end

  short_taken : fault_of program_app (codes "node" ∷ short_words) ≡ []
  unfolding clap_on_literals
  short_taken = ap (λ (below : Kinds). or_else below []) short_walked.fits

  short_found : subcommand_of program_app (codes "node" ∷ short_words) ≡ Some (codes "node", finished leaf.rules (held_1 listen))
  unfolding clap_on_literals
  short_found = ap (λ (w : Walk). Some (codes "node", finished leaf.rules w.held)) short_walked.ends

-- the numbers behind it
module _ (listen capacity clients turns : Text) (listen_plain : IsPlainWord listen) (capacity_taken : IsTakenNumber capacity) (clients_taken : IsTakenNumber clients)
    (turns_taken : IsTakenNumber turns) where
  abbrev words : List Text
  words = codes "--listen" ∷ listen ∷ codes "--capacity" ∷ capacity ∷ codes "--clients" ∷ clients ∷ codes "--turns" ∷ turns ∷ []

  abbrev end : Walk
  end = standing (held_4 listen capacity clients turns)

  clients_named : walked leaf.rules [] (standing (held_2 listen capacity)) (codes "--clients")
      ≡ asking (codes "clients") (with_named leaf (codes "clients") (held_2 listen capacity))
  unfolding clap_on_literals
  clients_named = refl

  turns_named : walked leaf.rules [] (standing (held_3 listen capacity clients)) (codes "--turns")
      ≡ asking (codes "turns") (with_named leaf (codes "turns") (held_3 listen capacity clients))
  unfolding clap_on_literals
  turns_named = refl

  clients_turn : turn_fault leaf [] (standing (held_2 listen capacity)) (codes "--clients") ≡ []
  clients_turn = ap (λ (kinds : Kinds). or_else kinds []) (value_taken capacity capacity_taken.accepted)

  turns_turn : turn_fault leaf [] (standing (held_3 listen capacity clients)) (codes "--turns") ≡ []
  turns_turn = ap (λ (kinds : Kinds). or_else kinds []) (value_taken clients clients_taken.accepted)

  end_taken : after_walk leaf end ≡ []
  unfolding clap_on_literals
  end_taken = ap (λ (kinds : Kinds). or_else kinds []) (value_taken turns turns_taken.accepted)

  after_clients : Leads leaf (standing (held_3 listen capacity clients)) (codes "--turns" ∷ turns ∷ []) end
  after_clients =
      option_before leaf (codes "--turns") (codes "turns") turns (held_3 listen capacity clients) (with_named leaf (codes "turns") (held_3 listen capacity clients))
      [] end turns_named turns_turn turns_taken.plain (no_words leaf end)

  after_capacity : Leads leaf (standing (held_2 listen capacity)) (codes "--clients" ∷ clients ∷ codes "--turns" ∷ turns ∷ []) end
  after_capacity =
      option_before leaf (codes "--clients") (codes "clients") clients (held_2 listen capacity) (with_named leaf (codes "clients") (held_2 listen capacity))
      (codes "--turns" ∷ turns ∷ []) end clients_named clients_turn clients_taken.plain after_clients

  after_listen : Leads leaf (standing (held_1 listen)) (codes "--capacity" ∷ capacity ∷ codes "--clients" ∷ clients ∷ codes "--turns" ∷ turns ∷ []) end
  after_listen =
      option_before leaf (codes "--capacity") (codes "capacity") capacity (held_1 listen) (with_named leaf (codes "capacity") (held_1 listen))
      (codes "--clients" ∷ clients ∷ codes "--turns" ∷ turns ∷ []) end (capacity_named listen) refl capacity_taken.plain after_capacity

  words_walked : IsWalked leaf words end
  words_walked = all_walked leaf words end
      (option_before leaf (codes "--listen") (codes "listen") listen nothing_held (with_named leaf (codes "listen") nothing_held)
      (codes "--capacity" ∷ capacity ∷ codes "--clients" ∷ clients ∷ codes "--turns" ∷ turns ∷ []) end listen_named refl listen_plain after_listen)
      end_taken

  words_taken : fault_of program_app (codes "node" ∷ words) ≡ []
  unfolding clap_on_literals
  words_taken = ap (λ (below : Kinds). or_else below []) words_walked.fits

  rows_found : subcommand_of program_app (codes "node" ∷ words) ≡ Some (codes "node", finished leaf.rules (held_4 listen capacity clients turns))
  unfolding clap_on_literals
  rows_found = ap (λ (w : Walk). Some (codes "node", finished leaf.rules w.held)) words_walked.ends

-- how many items it holds, and that it goes on for good
module _ (listen capacity : Text) (listen_plain : IsPlainWord listen) (capacity_taken : IsTakenNumber capacity) where
  abbrev forever_words : List Text
  forever_words = codes "--listen" ∷ listen ∷ codes "--capacity" ∷ capacity ∷ codes "--forever" ∷ []

  abbrev held_forever : Held
  held_forever = with_flag leaf forever_rule (held_2 listen capacity)

  abbrev forever_end : Walk
  forever_end = standing held_forever

  forever_named : walked leaf.rules [] (standing (held_2 listen capacity)) (codes "--forever") ≡ forever_end
  unfolding clap_on_literals
  forever_named = refl

  forever_turn : turn_fault leaf [] (standing (held_2 listen capacity)) (codes "--forever") ≡ []
  forever_turn = ap (λ (kinds : Kinds). or_else (or_else kinds []) []) (value_taken capacity capacity_taken.accepted)

  forever_end_taken : after_walk leaf forever_end ≡ []
  unfolding clap_on_literals
  forever_end_taken = refl

  forever_after_listen : Leads leaf (standing (held_1 listen)) (codes "--capacity" ∷ capacity ∷ codes "--forever" ∷ []) forever_end
  forever_after_listen =
      option_before leaf (codes "--capacity") (codes "capacity") capacity (held_1 listen) (with_named leaf (codes "capacity") (held_1 listen))
      (codes "--forever" ∷ []) forever_end (capacity_named listen) refl capacity_taken.plain
      (flag_before leaf (codes "--forever") (held_2 listen capacity) held_forever [] forever_end forever_named forever_turn (no_words leaf forever_end))

  forever_walked : IsWalked leaf forever_words forever_end
  forever_walked = all_walked leaf forever_words forever_end
      (option_before leaf (codes "--listen") (codes "listen") listen nothing_held (with_named leaf (codes "listen") nothing_held)
      (codes "--capacity" ∷ capacity ∷ codes "--forever" ∷ []) forever_end listen_named refl listen_plain forever_after_listen)
      forever_end_taken

  forever_taken : fault_of program_app (codes "node" ∷ forever_words) ≡ []
  unfolding clap_on_literals
  forever_taken = ap (λ (below : Kinds). or_else below []) forever_walked.fits

  forever_found : subcommand_of program_app (codes "node" ∷ forever_words) ≡ Some (codes "node", finished leaf.rules held_forever)
  unfolding clap_on_literals
  forever_found = ap (λ (w : Walk). Some (codes "node", finished leaf.rules w.held)) forever_walked.ends

-- words that plainly say a node say it to `clap`
pub node_said : (said : List Text) (values : NodeValues) → SaysPlainly said (Node values) → Say said (Node values)
node_said said values (inl says) =
    let listen = values.listen.now in
    let listen_plain = plain_word listen says.listen_is_none in
    let rows : List Row = finished leaf.rules (held_1 listen) in
    record {
      fits = subst (λ (w : List Text). fault_of program_app w ≡ []) (sym says.words_are) (short_taken listen listen_plain);
      finds = (
        rows,
        subst (λ (w : List Text). subcommand_of program_app w ≡ Some (codes "node", rows)) (sym says.words_are) (short_found listen listen_plain),
        record { listen_is = refl; capacity_is = says.capacity_is; clients_is = says.clients_is; turns_is = says.turns_is; idle_is = says.idle_is; metrics_is = sym (ap path_in says.metrics_is); loops_are = by_threads rows values.on_loops refl (record { no_loops = refl; no_most = refl; no_quiet = refl }) says.loops_are },
      );
    }
node_said said values (inr (inl says)) =
    let listen = values.listen.now in
    let listen_plain = plain_word listen says.listen_is_none in
    let capacity_taken = number_is_taken says.capacity values.capacity says.capacity_is in
    let clients_taken = number_is_taken says.clients values.clients says.clients_is in
    let turns_taken = number_is_taken says.turns values.turns says.turns_is in
    let rows : List Row = finished leaf.rules (held_4 listen says.capacity says.clients says.turns) in
    record {
      fits = subst (λ (w : List Text). fault_of program_app w ≡ []) (sym says.words_are)
          (words_taken listen says.capacity says.clients says.turns listen_plain capacity_taken clients_taken turns_taken);
      finds = (
        rows,
        subst (λ (w : List Text). subcommand_of program_app w ≡ Some (codes "node", rows)) (sym says.words_are)
            (rows_found listen says.capacity says.clients says.turns listen_plain capacity_taken clients_taken turns_taken),
        record { listen_is = refl; capacity_is = says.capacity_is; clients_is = says.clients_is; turns_is = says.turns_is; idle_is = says.idle_is; metrics_is = sym (ap path_in says.metrics_is); loops_are = by_threads rows values.on_loops refl (record { no_loops = refl; no_most = refl; no_quiet = refl }) says.loops_are },
      );
    }
node_said said values (inr (inr says)) =
    let listen = values.listen.now in
    let listen_plain = plain_word listen says.listen_is_none in
    let capacity_taken = number_is_taken says.capacity values.capacity says.capacity_is in
    let rows : List Row = finished leaf.rules (held_forever listen says.capacity listen_plain capacity_taken) in
    record {
      fits = subst (λ (w : List Text). fault_of program_app w ≡ []) (sym says.words_are) (forever_taken listen says.capacity listen_plain capacity_taken);
      finds = (
        rows,
        subst (λ (w : List Text). subcommand_of program_app w ≡ Some (codes "node", rows)) (sym says.words_are)
            (forever_found listen says.capacity listen_plain capacity_taken),
        record { listen_is = refl; capacity_is = says.capacity_is; clients_is = says.clients_is; turns_is = says.turns_is; idle_is = says.idle_is; metrics_is = sym (ap path_in says.metrics_is); loops_are = on_loops rows values.on_loops refl (record { loops_are = tt; most_are = refl; quiet_is = refl }) says.loops_are },
      );
    }
