-- What a parse by `clap` says of the words as a whole.
use Rattle.std.proofs.Common.{◌≡◌, ◌∙◌, codes, refl, subst, sym, ℕ, List, [], ◌∷◌, true, inl, inr, Result, Ok, Err, IsErrAnd}
use Rattle.clap.proofs.OnLiterals.{clap_on_literals}
use Rattle.clap.specs.Faults.{is_simple_and_free}
use Rattle.clap.specs.Kinds.{Kinds, HasKind, IsAmong}
use Rattle.clap.specs.Values.{kind_of}
use Rattle.clap.specs.Words.{Text, fault_of, is_simple, subcommand_of}
use Rattle.clap.specs.declared.error.Error.{Error}
use Rattle.clap.specs.declared.error.kind.ErrorKind.{ErrorKind}
use Rattle.clap.specs.declared.error.kind.ErrorKind.TheVariants.{OutOfMemory, DisplayVersion}
use Rattle.mr_words.proofs.PlainCanary.{canary_said}
use Rattle.mr_words.proofs.PlainExplain.{explanation_said}
use Rattle.mr_words.proofs.PlainFile.{check_said, draw_said, run_said, upgrade_said}
use Rattle.mr_words.proofs.PlainNode.{node_said}
use Rattle.mr_words.proofs.PlainPlan.{file_plan_said}
use Rattle.mr_words.proofs.PlainProxy.{proxy_said}
use Rattle.mr_words.proofs.PlainSixWords.{six_words_said}
use Rattle.mr_words.proofs.PlainTimeline.{timeline_said}
use Rattle.mr_words.proofs.PlainWatch.{watch_said}
use Rattle.mr_words.proofs.WordLemmas.{no_version_said, one_said, said_not_bad}
use Rattle.mr_words.specs.Command.{program_app}
use Rattle.mr_words.specs.Words.{FindsBadReadings, FindsCommand, Found, ReadsAs, ReadsWords, Say, SayNothing, SayVersionAlone, SaysPlainly, SaysPlan, SaysVersion, SayWhat, TellsVersion}
use Rattle.mr_words.specs.WordSteps.{GivesCommand, IsFaultOf}
use Rattle.mr_words.specs.declared.plan_words.Planned.{Planned}
use Rattle.mr_words.specs.declared.plan_words.Planned.TheVariants.{InFile, InWords}
use Rattle.mr_words.specs.declared.words.Wanted.{Wanted}
use Rattle.mr_words.specs.declared.words.Wanted.TheVariants.{Plan, Timeline, Run, Check, Draw, Upgrade, Node, Proxy, Watch, Canary, Explain}
use Rattle.mr_words.specs.declared.words.WordsFault.{WordsFault}
use Rattle.mr_words.specs.declared.words.WordsFault.TheVariants.{Wrong, Version, Readings, Memory}

pub simple : is_simple program_app ≡ true
unfolding clap_on_literals
simple = refl

pub simple_and_free : is_simple_and_free program_app ≡ true
unfolding clap_on_literals
simple_and_free = refl

no_kind : (kinds : Kinds) (error : Error) → kinds ≡ [] → HasKind kinds error → kind_of error ≡ OutOfMemory
no_kind [] error e (inl memory) = memory
no_kind [] error e (inr never) = absurd never
no_kind (k ∷ rest) error e h = cc

-- an error of a call for the version, and one that is none
version_among : (kinds : Kinds) (error : Error) → kind_of error ≡ DisplayVersion → HasKind kinds error → IsAmong DisplayVersion kinds
version_among kinds error is (inl memory) = let never : OutOfMemory ≡ DisplayVersion = sym memory ∙ is in cc
version_among kinds error is (inr among) = subst (λ (k : ErrorKind). IsAmong k kinds) is among

only_version : (kind : ErrorKind) → IsAmong kind (DisplayVersion ∷ []) → kind ≡ DisplayVersion
only_version kind (inl is) = is
only_version kind (inr never) = absurd never

not_version : (kinds : Kinds) (error : Error) → HasKind kinds error → ¬ (kind_of error ≡ OutOfMemory) → ¬ (kind_of error ≡ DisplayVersion)
    → ¬ (kinds ≡ DisplayVersion ∷ [])
not_version kinds error (inl memory) no_memory other alone = no_memory memory
not_version kinds error (inr among) no_memory other alone = other (only_version (kind_of error) (subst (IsAmong (kind_of error)) alone among))

-- words in which the command line finds a fault
pub words_refused : (words : List Text) (error : Error) (result : Result Wanted WordsFault) → HasKind (fault_of program_app words) error
    → IsErrAnd result (IsFaultOf error) → ReadsWords words result
words_refused words error (Ok read) found h = absurd h
words_refused words error (Err Memory) found h = tt
words_refused words error (Err Readings) found h = absurd h
words_refused words error (Err Version) found h = version_among (fault_of program_app words) error h found
words_refused words error (Err (Wrong text)) found h = record {
  no_command = λ wanted says. h.0 (no_kind (fault_of program_app words) error says.fits found);
  no_readings = λ says. h.0 (no_kind (fault_of program_app words) error says.fits found);
  no_version = not_version (fault_of program_app words) error found h.0 h.1;
}

-- words in which it finds none
pub words_say : (words : List Text) (found : Found) (holds : Found → Type 0) → fault_of program_app words ≡ [] → found ≡ subcommand_of program_app words
    → holds found → SayWhat words holds
words_say words found holds fits is finds = record { fits = fits; finds = subst holds is finds }

pub words_say_nothing : (words : List Text) (found : Found) → fault_of program_app words ≡ [] → found ≡ subcommand_of program_app words
    → ((wanted : Wanted) → ¬ FindsCommand found wanted) → ¬ FindsBadReadings found → SayNothing words
words_say_nothing words found fits is none not_bad = record {
  no_command = λ wanted says. none wanted (subst (λ (o : Found). FindsCommand o wanted) (sym is) says.finds);
  no_readings = λ says. not_bad (subst FindsBadReadings (sym is) says.finds);
  no_version = λ alone. let never : [] ≡ DisplayVersion ∷ [] = sym fits ∙ alone in cc;
}

-- words whose command wasn't made
pub words_fail : (words : List Text) (found : Found) (fault : WordsFault) (result : Result Wanted WordsFault) → fault_of program_app words ≡ []
    → found ≡ subcommand_of program_app words → GivesCommand found (Err fault) → IsErrAnd result (λ other. other ≡ fault) → ReadsWords words result
words_fail words found fault (Ok read) fits is gives h = absurd h
words_fail words found fault (Err (Wrong text)) fits is gives h = absurd (subst (λ (f : WordsFault). GivesCommand found (Err f)) (sym h) gives)
words_fail words found fault (Err Version) fits is gives h = absurd (subst (λ (f : WordsFault). GivesCommand found (Err f)) (sym h) gives)
words_fail words found fault (Err Readings) fits is gives h =
    words_say words found FindsBadReadings fits is (subst (λ (f : WordsFault). GivesCommand found (Err f)) (sym h) gives)
words_fail words found fault (Err Memory) fits is gives h = tt

-- words that plainly say a plan in one of its forms say it to `clap`
plan_said : (words : List Text) (planned : Planned) (at : ℕ) → SaysPlan words planned at → Say words (Plan (record { planned = planned; at = at }))
plan_said words (InFile path) at says = file_plan_said words path at says
plan_said words (InWords migration) at says = six_words_said words migration at says

-- words that plainly say a command say it to `clap`
plainly_said : (words : List Text) (wanted : Wanted) → SaysPlainly words wanted → Say words wanted
plainly_said words (Plan values) says = plan_said words values.planned values.at says
plainly_said words (Timeline values) says = timeline_said words values says.0 says.1 says.2
plainly_said words (Run file) says = run_said words file says
plainly_said words (Check file) says = check_said words file says
plainly_said words (Draw file) says = draw_said words file says
plainly_said words (Upgrade file) says = upgrade_said words file says
plainly_said words (Node values) says = node_said words values says
plainly_said words (Proxy values) says = proxy_said words values says
plainly_said words (Watch values) says = watch_said words values says
plainly_said words (Canary values) says = canary_said words values says
plainly_said words (Explain explanation) says = explanation_said words explanation says

-- what is read of words that plainly say a command
pub reads_as : (words : List Text) (result : Result Wanted WordsFault) → ReadsWords words result → (wanted : Wanted) → SaysPlainly words wanted → ReadsAs wanted result
reads_as words (Ok read) h wanted plainly = one_said words read wanted h (plainly_said words wanted plainly)
reads_as words (Err (Wrong text)) h wanted plainly = h.no_command wanted (plainly_said words wanted plainly)
reads_as words (Err Version) h wanted plainly = absurd (no_version_said words wanted (plainly_said words wanted plainly) h)
reads_as words (Err Readings) h wanted plainly = said_not_bad words wanted (plainly_said words wanted plainly) h
reads_as words (Err Memory) h wanted plainly = tt

-- the words that call for the version
version_called : fault_of program_app (codes "--version" ∷ []) ≡ DisplayVersion ∷ []
unfolding clap_on_literals
version_called = refl

short_version_called : fault_of program_app (codes "-V" ∷ []) ≡ DisplayVersion ∷ []
unfolding clap_on_literals
short_version_called = refl

version_said : (words : List Text) → SaysVersion words → SayVersionAlone words
version_said words (inl is) = subst (λ (w : List Text). fault_of program_app w ≡ DisplayVersion ∷ []) (sym is) version_called
version_said words (inr is) = subst (λ (w : List Text). fault_of program_app w ≡ DisplayVersion ∷ []) (sym is) short_version_called

-- what is read of them
no_fault_found : (words : List Text) → SayVersionAlone words → fault_of program_app words ≡ [] → ⊥
no_fault_found words alone none = let never : [] ≡ DisplayVersion ∷ [] = sym none ∙ alone in cc

pub reads_version : (words : List Text) (result : Result Wanted WordsFault) → ReadsWords words result → SaysVersion words → TellsVersion result
reads_version words (Ok read) h says = no_fault_found words (version_said words says) h.fits
reads_version words (Err (Wrong text)) h says = h.no_version (version_said words says)
reads_version words (Err Version) h says = tt
reads_version words (Err Readings) h says = no_fault_found words (version_said words says) h.fits
reads_version words (Err Memory) h says = tt
