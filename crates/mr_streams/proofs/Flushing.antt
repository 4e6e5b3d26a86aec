-- The first turns that have texts, and what a flush does with them.
use Rattle.std.proofs.Common.{◌≡◌, List, [], ◌∷◌, ◌++◌, IsTrue, is_some, flat_map, refl, ap}
use Rattle.std.specs.List.{AllByRecursion}
use Rattle.mr_loop.specs.Events.{changed_in}
use Rattle.mr_loop.specs.Runs.{told_text}
use Rattle.mr_loop.specs.Turns.{text_of_turn, front_text, behind_front, flushed}
use Rattle.mr_loop.specs.declared.turns.Turn.{Turn}
use Rattle.mr_loop.specs.declared.turns.Turn.TheVariants.{Waits, Answered, Says}
use Rattle.mr_streams.specs.Flushing.{FlushesPutTexts}

-- the first turns that have texts
record HaveTexts (turns : List Turn) : Type 0 where
  pub told : List Turn
  pub splits : turns ≡ told ++ behind_front turns
  pub text : front_text turns ≡ flat_map told_text told
  pub have : AllByRecursion (λ turn. IsTrue (is_some (text_of_turn turn))) told

have_texts : (turns : List Turn) → HaveTexts turns
have_texts [] = record { told = []; splits = refl; text = refl; have = tt }
have_texts (Waits op ∷ turns) = record { told = []; splits = refl; text = refl; have = tt }
have_texts (Answered answer ∷ turns) =
    let later = have_texts turns in
    record {
      told = Answered answer ∷ later.told;
      splits = ap (λ x. Answered answer ∷ x) later.splits;
      text = ap (λ x. told_text (Answered answer) ++ x) later.text;
      have = (cc, later.have);
    }
have_texts (Says reply ∷ turns) =
    let later = have_texts turns in
    record {
      told = Says reply ∷ later.told;
      splits = ap (λ x. Says reply ∷ x) later.splits;
      text = ap (λ x. told_text (Says reply) ++ x) later.text;
      have = (cc, later.have);
    }

pub flushes_put_texts : FlushesPutTexts
flushes_put_texts loop place client there =
    let f = have_texts client.turns in
    record {
      was = client;
      client = flushed client;
      there = there;
      tells = record { told = f.told; splits = f.splits; have_texts = f.have; text = ap (λ x. client.out ++ x) f.text };
      becomes = ap (λ o. record loop { front = record loop.front { clients = changed_in o place flushed loop.front.clients } }) there;
    }
