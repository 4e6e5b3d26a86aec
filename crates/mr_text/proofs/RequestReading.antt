-- The reading of requests finds what the relations say, and nothing else.
use Rattle.std.proofs.Common.{◌≡◌, ℕ, ◌+◌, ◌-◌, ◌<◌, ◌≤◌, Bool, true, false, List, ◌∷◌, ◌++◌, length, take, drop, Result, Ok, Err, refl, sym, ◌∙◌, ap, subst, arith, inl, inr, ◌⊎◌, ℤ, append_assoc, length-append, length-drop}
use Rattle.std.proofs.Math.Seq.{take-append_seam, drop-append_seam}
use Rattle.std.proofs.lemmas.List.{length-take-le, take-append-drop}
use Rattle.mr_lines.specs.Words.{words_of}
use Rattle.mr_text.specs.Commands.{Shape, HasShape, IsUnknown, AreWrong, HasKeys, Numbers}
use Rattle.mr_text.specs.Commands.Shape.{GetShape, SetShape, DeleteShape, QuitShape}
use Rattle.mr_text.specs.Requests.{IsLineOfWords, IsLineOfShape, IsSetLine, SpellsSet, SpellsRequest, BeginsWithWords, HasBadKey, HasBadNumber, BeginsWithSet, HasBadDataEnd, RefusesRequest, SkipsLine, block_end}
use Rattle.mr_text.specs.steps.Reading.{StretchReading, CommandLine, line_reading, command_line, line_of_shape, line_of, shape_of, block_reading, set_reading, request_of_line, request_of_reading, request_reading}
use Rattle.mr_text.specs.steps.Reading.StretchReading.{Waits, Gives, Refused}
use Rattle.mr_text.specs.steps.Reading.CommandLine.{GetLine, SetLine, DeleteLine, QuitLine}
use Rattle.mr_text.specs.Limits.{MAX_BLOCK}
use Rattle.mr_text.specs.declared.error.TextError.{TextError}
use Rattle.mr_text.specs.declared.error.TextError.TheVariants.{LineTooLong, BadKey, BadNumber, WrongWords, DataTooLong, BadDataEnd, UnknownCommand, Truncated, Closed, OutOfMemory}
use Rattle.mr_text.specs.declared.request.Request.{Request}
use Rattle.mr_text.specs.declared.request.Request.TheVariants.{Get, Set, Delete, Quit}
use Rattle.mr_text.proofs.Blocks.{block_found, bad_found, IsBlockRead, BlockIs, block_is}
use Rattle.mr_text.proofs.Lines.{line_found, long_found, IsRead, LineIs, line_is}
use Rattle.mr_text.proofs.Shapes.{shape_found, ShapeIs, shape_is, unknown_found, wrong_found}
use Rattle.mr_text.proofs.Values.{Says, says, ReadNumbers, signed_found}

-- what is read of a line of these words
pub words_found : (start after : List ℕ) (words : List (List ℕ)) → IsLineOfWords start words
    → request_reading (start ++ after) ≡ request_of_line (start ++ after) (length start) (command_line words)
unfolding request_reading
words_found start after words h =
    let line = line_found start after h.line h.is_line h.not_long in
    rw (line, h.splits) refl

-- the numbers of a set are these alone
pub same_numbers : (flags exptime bytes : List ℕ) (f f' : ℕ) (e e' : ℤ) (b b' : ℕ) → Numbers flags exptime bytes f e b → Numbers flags exptime bytes f' e' b'
    → (f ≡ f') × (e ≡ e') × (b ≡ b')
same_numbers flags exptime bytes f f' e e' b b' h k =
    let one = signed_found exptime e h.exptime_is h.exptime_fits in
    let other = signed_found exptime e' k.exptime_is k.exptime_fits in
    (sym h.flags_is.value ∙ k.flags_is.value, cc, sym h.length_is.value ∙ k.length_is.value)

-- the reading of a line of this shape
shape_line : (words : List (List ℕ)) (shape : Shape) → HasShape words shape → command_line words ≡ line_of shape
shape_line words shape h = let found = shape_found words shape h in rw found refl

-- a set's line, with a block of an allowed length or not
pub set_line_found : (start key : List ℕ) (flags : ℕ) (exptime : ℤ) (block_length : ℕ) (noreply : Bool) (h : IsSetLine start key flags exptime block_length noreply)
    → ((command_line h.is_line.words ≡ Err DataTooLong) × (MAX_BLOCK < block_length)) ⊎
    ((command_line h.is_line.words ≡ Ok (SetLine key flags exptime block_length noreply)) × (block_length ≤ MAX_BLOCK))
set_line_found start key flags exptime block_length noreply h =
    elim (says (SetShape key h.flags_word h.exptime_word h.length_word noreply)) [
      | inl bad ↦ absurd (bad.1 h.is_line.keys)
      | inr (inl bad) ↦ absurd (bad.2 flags exptime block_length h.numbers)
      | inr (inr good) ↦ read good.1
    ]
  where
    line : command_line h.is_line.words ≡ line_of (SetShape key h.flags_word h.exptime_word h.length_word noreply)
    line = shape_line h.is_line.words (SetShape key h.flags_word h.exptime_word h.length_word noreply) h.is_line.shaped

    read : ReadNumbers h.flags_word h.exptime_word h.length_word noreply key (line_of (SetShape key h.flags_word h.exptime_word h.length_word noreply))
        → ((command_line h.is_line.words ≡ Err DataTooLong) × (MAX_BLOCK < block_length)) ⊎
        ((command_line h.is_line.words ≡ Ok (SetLine key flags exptime block_length noreply)) × (block_length ≤ MAX_BLOCK))
    read r =
        let same = same_numbers h.flags_word h.exptime_word h.length_word flags r.flags_number exptime r.exptime_number block_length r.block_length h.numbers r.numbers in
        let f = same.0 in
        let e = same.1 in
        let b = same.2 in
        elim r.says [
          | inl long ↦ inl (line ∙ long.0, let l = long.1 in omega arith)
          | inr fits ↦ inr (line ∙ fits.0 ∙ rw (f, e, b) refl, let l = fits.1 in omega arith)
        ]

-- a set whose line and block are there
set_found : (bytes key : List ℕ) (flags : ℕ) (exptime : ℤ) (block : List ℕ) (noreply : Bool) (after : List ℕ) → SpellsSet bytes key flags exptime block noreply
    → request_reading (bytes ++ after) ≡ Gives (Set key flags exptime block noreply) (length bytes)
set_found bytes key flags exptime block noreply after h = elim (set_line_found h.line key flags exptime (length block) noreply h.is_line) [
  | inl long ↦ absurd (let fits = h.is_block in let over = long.1 in omega arith)
  | inr fits ↦ whole fits.0
]
  where
    joined : bytes ++ after ≡ h.line ++ (block ++ (13 ∷ 10 ∷ after))
    joined = ap (λ s. s ++ after) h.follows ∙ append_assoc h.line (block ++ block_end) after ∙ ap (λ s. h.line ++ s) (append_assoc block block_end after)

    size : length bytes ≡ length h.line + length block + 2
    size = ap length h.follows ∙ length-append h.line (block ++ block_end) ∙ rw (length-append block block_end) (omega arith)

    whole : command_line h.is_line.is_line.words ≡ Ok (SetLine key flags exptime (length block) noreply)
        → request_reading (bytes ++ after) ≡ Gives (Set key flags exptime block noreply) (length bytes)
    whole e =
        let start = words_found h.line (block ++ (13 ∷ 10 ∷ after)) h.is_line.is_line.words h.is_line.is_line.is_line in
        let there = block_found block after in
        let behind = drop-append_seam h.line (block ++ (13 ∷ 10 ∷ after)) in
        let front = take-append_seam block (13 ∷ 10 ∷ after) in
        let read : Gives (Set key flags exptime (take (length block) (drop (length h.line) (h.line ++ (block ++ (13 ∷ 10 ∷ after))))) noreply) (length h.line + length block + 2)
        ≡ Gives (Set key flags exptime block noreply) (length bytes) = rw (behind, front, size) refl in
        rw (joined, start, e, behind, there) read

-- bytes that spell a request are read as that request, whatever follows
pub request_found : (bytes : List ℕ) (request : Request) (after : List ℕ) → SpellsRequest bytes request → request_reading (bytes ++ after) ≡ Gives request (length bytes)
request_found bytes (Get keys) after h = elim (says (GetShape keys)) [
  | inl good ↦ rw (words_found bytes after h.words h.is_line, shape_line h.words (GetShape keys) h.shaped, good.0) refl
  | inr bad ↦ absurd (bad.1 h.keys)
]
request_found bytes (Set key flags exptime block noreply) after h = set_found bytes key flags exptime block noreply after h
request_found bytes (Delete key noreply) after h = elim (says (DeleteShape key noreply)) [
  | inl good ↦ rw (words_found bytes after h.words h.is_line, shape_line h.words (DeleteShape key noreply) h.shaped, good.0) refl
  | inr bad ↦ absurd (bad.1 h.keys)
]
request_found bytes Quit after h = rw (words_found bytes after h.words h.is_line, shape_line h.words QuitShape h.shaped) refl

abbrev pub IsRefused : List ℕ → TextError → Type 0
IsRefused bytes refusal = (size : ℕ) × (request_reading bytes ≡ Refused refusal size)

words_refused : (bytes : List ℕ) (words : List (List ℕ)) (refusal : TextError) → BeginsWithWords bytes words → command_line words ≡ Err refusal → IsRefused bytes refusal
words_refused bytes words refusal h e = (length h.line, let found = words_found h.line h.after words h.is_line in rw (h.splits, found, e) refl)

bad_key_found : (words : List (List ℕ)) → HasBadKey words → command_line words ≡ Err BadKey
bad_key_found words h = go h.shape h.shaped h.bad (says h.shape)
  where
    go : (shape : Shape) → HasShape words shape → ¬ HasKeys shape → Says shape (line_of shape) → command_line words ≡ Err BadKey
    go (GetShape keys) shaped bad (inl good) = absurd (bad good.1)
    go (GetShape keys) shaped bad (inr wrong) = shape_line words (GetShape keys) shaped ∙ wrong.0
    go (SetShape key flags exptime bytes noreply) shaped bad (inl wrong) = shape_line words (SetShape key flags exptime bytes noreply) shaped ∙ wrong.0
    go (SetShape key flags exptime bytes noreply) shaped bad (inr (inl other)) = absurd (bad other.0)
    go (SetShape key flags exptime bytes noreply) shaped bad (inr (inr good)) = absurd (bad good.0)
    go (DeleteShape key noreply) shaped bad (inl good) = absurd (bad good.1)
    go (DeleteShape key noreply) shaped bad (inr wrong) = shape_line words (DeleteShape key noreply) shaped ∙ wrong.0
    go QuitShape shaped bad is = absurd (bad tt)

bad_number_found : (words : List (List ℕ)) → HasBadNumber words → command_line words ≡ Err BadNumber
bad_number_found words h = elim (says (SetShape h.key h.flags h.exptime h.bytes h.noreply)) [
  | inl bad ↦ absurd (bad.1 h.keys)
  | inr (inl wrong) ↦ shape_line words (SetShape h.key h.flags h.exptime h.bytes h.noreply) h.shaped ∙ wrong.1
  | inr (inr good) ↦ absurd (h.bad good.1.flags_number good.1.exptime_number good.1.block_length good.1.numbers)
]

-- a refused set, when its line is read
set_refused : (bytes : List ℕ) (block_length : ℕ) (after : List ℕ) → BeginsWithSet bytes block_length after → MAX_BLOCK < block_length → IsRefused bytes DataTooLong
set_refused bytes block_length after h long = elim (set_line_found h.line h.key h.flags h.exptime block_length h.noreply h.is_line) [
  | inl over ↦ (length h.line, let found = words_found h.line after h.is_line.is_line.words h.is_line.is_line.is_line in let e = over.0 in rw (h.splits, found, e) refl)
  | inr fits ↦ absurd (let small = fits.1 in omega arith)
]

bad_end_refused : (bytes : List ℕ) → HasBadDataEnd bytes → IsRefused bytes BadDataEnd
bad_end_refused bytes h = elim (set_line_found h.begins.line h.begins.key h.begins.flags h.begins.exptime h.block_length h.begins.noreply h.begins.is_line) [
  | inl over ↦ absurd (let fits = h.allowed in let long = over.1 in omega arith)
  | inr fits ↦ (
    0,
    let found = words_found h.begins.line h.after h.begins.is_line.is_line.words h.begins.is_line.is_line.is_line in
        let e = fits.0 in
        let behind = drop-append_seam h.begins.line h.after in
        let bad = bad_found h.block_length h.after h.ends in
        rw (h.begins.splits, found, e, behind, bad) refl,
  )
]

-- what is refused is read so
pub refusal_found : (refusal : TextError) (bytes : List ℕ) → RefusesRequest refusal bytes → IsRefused bytes refusal
unfolding request_reading
refusal_found LineTooLong bytes h = (0, rw (long_found bytes h) refl)
refusal_found (UnknownCommand closes) bytes h = words_refused bytes h.0 (UnknownCommand closes) h.1 (let found = unknown_found h.0 closes h.2 in rw found refl)
refusal_found WrongWords bytes h = words_refused bytes h.0 WrongWords h.1 (let found = wrong_found h.0 h.2 in rw found refl)
refusal_found BadKey bytes h = words_refused bytes h.0 BadKey h.1 (bad_key_found h.0 h.2)
refusal_found BadNumber bytes h = words_refused bytes h.0 BadNumber h.1 (bad_number_found h.0 h.2)
refusal_found DataTooLong bytes h = set_refused bytes h.0 h.1 h.2 h.3
refusal_found BadDataEnd bytes h = bad_end_refused bytes h
refusal_found Truncated bytes h = absurd h
refusal_found Closed bytes h = absurd h
refusal_found OutOfMemory bytes h = absurd h

-- what the words of a line say is right
abbrev pub LineSays : List (List ℕ) → Result CommandLine TextError → Type 0
LineSays words (Ok (GetLine keys)) = HasShape words (GetShape keys) × HasKeys (GetShape keys)
LineSays words (Ok (SetLine key flags exptime block_length noreply)) =
    (flags_word : List ℕ) × (exptime_word : List ℕ) × (length_word : List ℕ) × HasShape words (SetShape key flags_word exptime_word length_word noreply) ×
    HasKeys (SetShape key flags_word exptime_word length_word noreply) × Numbers flags_word exptime_word length_word flags exptime block_length × (block_length ≤ MAX_BLOCK)
LineSays words (Ok (DeleteLine key noreply)) = HasShape words (DeleteShape key noreply) × HasKeys (DeleteShape key noreply)
LineSays words (Ok QuitLine) = HasShape words QuitShape
LineSays words (Err (UnknownCommand closes)) = IsUnknown words closes
LineSays words (Err WrongWords) = AreWrong words
LineSays words (Err BadKey) = HasBadKey words
LineSays words (Err BadNumber) = HasBadNumber words
LineSays words (Err DataTooLong) =
    (key : List ℕ) × (flags_word : List ℕ) × (exptime_word : List ℕ) × (length_word : List ℕ) × (noreply : Bool) × (flags : ℕ) × (exptime : ℤ) × (block_length : ℕ) ×
    HasShape words (SetShape key flags_word exptime_word length_word noreply) × HasKeys (SetShape key flags_word exptime_word length_word noreply) ×
    Numbers flags_word exptime_word length_word flags exptime block_length × (MAX_BLOCK < block_length)
LineSays words (Err refusal) = ⊥

pub line_says : (words : List (List ℕ)) → LineSays words (command_line words)
line_says words = go (shape_of words) (shape_is words)
  where
    get : (keys : List (List ℕ)) → HasShape words (GetShape keys) → Says (GetShape keys) (line_of (GetShape keys)) → LineSays words (line_of (GetShape keys))
    get keys is (inl good) = subst (LineSays words) (sym good.0) (is, good.1)
    get keys is (inr bad) = subst (LineSays words) (sym bad.0) (record { shape = GetShape keys; shaped = is; bad = bad.1 })

    delete : (key : List ℕ) (noreply : Bool) → HasShape words (DeleteShape key noreply) → Says (DeleteShape key noreply) (line_of (DeleteShape key noreply))
        → LineSays words (line_of (DeleteShape key noreply))
    delete key noreply is (inl good) = subst (LineSays words) (sym good.0) (is, good.1)
    delete key noreply is (inr bad) = subst (LineSays words) (sym bad.0) (record { shape = DeleteShape key noreply; shaped = is; bad = bad.1 })

    numbers : (key flags exptime bytes : List ℕ) (noreply : Bool) (r : Result CommandLine TextError) → HasShape words (SetShape key flags exptime bytes noreply)
        → HasKeys (SetShape key flags exptime bytes noreply) → ReadNumbers flags exptime bytes noreply key r → LineSays words r
    numbers key flags exptime bytes noreply r is keys n = elim n.says [
      | inl long ↦ subst (LineSays words) (sym long.0) (key, flags, exptime, bytes, noreply, n.flags_number, n.exptime_number, n.block_length, is, keys, n.numbers, long.1)
      | inr fits ↦ subst (LineSays words) (sym fits.0) (flags, exptime, bytes, is, keys, n.numbers, fits.1)
    ]

    set : (key flags exptime bytes : List ℕ) (noreply : Bool) → HasShape words (SetShape key flags exptime bytes noreply)
        → Says (SetShape key flags exptime bytes noreply) (line_of (SetShape key flags exptime bytes noreply)) → LineSays words (line_of (SetShape key flags exptime bytes noreply))
    set key flags exptime bytes noreply is (inl bad) = subst (LineSays words) (sym bad.0) (record { shape = SetShape key flags exptime bytes noreply; shaped = is; bad = bad.1 })
    set key flags exptime bytes noreply is (inr (inl wrong)) =
        subst (LineSays words) (sym wrong.1) (record { key = key; flags = flags; exptime = exptime; bytes = bytes; noreply = noreply; shaped = is; keys = wrong.0; bad = wrong.2 })
    set key flags exptime bytes noreply is (inr (inr good)) = numbers key flags exptime bytes noreply (line_of (SetShape key flags exptime bytes noreply)) is good.0 good.1

    go : (r : Result Shape TextError) → ShapeIs words r → LineSays words (line_of_shape r)
    go (Ok (GetShape keys)) is = get keys is (says (GetShape keys))
    go (Ok (SetShape key flags exptime bytes noreply)) is = set key flags exptime bytes noreply is (says (SetShape key flags exptime bytes noreply))
    go (Ok (DeleteShape key noreply)) is = delete key noreply is (says (DeleteShape key noreply))
    go (Ok QuitShape) is = is
    go (Err (UnknownCommand closes)) is = is
    go (Err WrongWords) is = is
    go (Err LineTooLong) is = absurd is
    go (Err BadKey) is = absurd is
    go (Err BadNumber) is = absurd is
    go (Err DataTooLong) is = absurd is
    go (Err BadDataEnd) is = absurd is
    go (Err Truncated) is = absurd is
    go (Err Closed) is = absurd is
    go (Err OutOfMemory) is = absurd is

-- what the reading of the bytes finds is right
abbrev pub ReadingIs : List ℕ → StretchReading Request → Type 0
ReadingIs bytes Waits = Unit {0}
ReadingIs bytes (Gives request size) = (size ≤ length bytes) × SpellsRequest (take size bytes) request
ReadingIs bytes (Refused (UnknownCommand false) size) = (size ≤ length bytes) × SkipsLine bytes (drop size bytes)
ReadingIs bytes (Refused refusal size) = RefusesRequest refusal bytes

module _ (bytes line : List ℕ) (size : ℕ) (read : IsRead bytes line size) where
  line_words : IsLineOfWords (take size bytes) (words_of line)
  line_words = record { line = line; is_line = read.is_line; not_long = read.not_long; splits = refl }

  begins : BeginsWithWords bytes (words_of line)
  begins = record { line = take size bytes; after = drop size bytes; splits = sym (take-append-drop size bytes); is_line = line_words }

  line_shape : (shape : Shape) → HasShape (words_of line) shape → HasKeys shape → IsLineOfShape (take size bytes) shape
  line_shape shape is keys = record { words = words_of line; is_line = line_words; shaped = is; keys = keys }

  pub set_line : (key flags_word exptime_word length_word : List ℕ) (noreply : Bool) (flags : ℕ) (exptime : ℤ) (block_length : ℕ)
      → HasShape (words_of line) (SetShape key flags_word exptime_word length_word noreply) → HasKeys (SetShape key flags_word exptime_word length_word noreply)
      → Numbers flags_word exptime_word length_word flags exptime block_length → IsSetLine (take size bytes) key flags exptime block_length noreply
  set_line key flags_word exptime_word length_word noreply flags exptime block_length is keys numbers = record {
    flags_word = flags_word;
    exptime_word = exptime_word;
    length_word = length_word;
    is_line = line_shape (SetShape key flags_word exptime_word length_word noreply) is keys;
    numbers = numbers;
  }

  begins_set : (key : List ℕ) (noreply : Bool) (flags : ℕ) (exptime : ℤ) (block_length : ℕ) → IsSetLine (take size bytes) key flags exptime block_length noreply
      → BeginsWithSet bytes block_length (drop size bytes)
  begins_set key noreply flags exptime block_length is = record {
    line = take size bytes;
    key = key;
    flags = flags;
    exptime = exptime;
    noreply = noreply;
    splits = sym (take-append-drop size bytes);
    is_line = is;
  }

  whole_set : (key : List ℕ) (noreply : Bool) (flags : ℕ) (exptime : ℤ) (block_length : ℕ) → block_length ≤ MAX_BLOCK
      → IsSetLine (take size bytes) key flags exptime block_length noreply → IsBlockRead block_length (drop size bytes)
      → SpellsSet (take (size + block_length + 2) bytes) key flags exptime (take block_length (drop size bytes)) noreply
  whole_set key noreply flags exptime block_length allowed is block =
      let behind = drop size bytes in
      let within = block.within in
      let low = read.within in
      let left : length behind ≡ length bytes - size = length-drop size bytes in
      let block_size : length (take block_length behind) ≡ block_length = length-take-le block_length behind (omega arith) in
      let line_size : length (take size bytes) ≡ size = length-take-le size bytes low in
      record {
        line = take size bytes;
        is_line = subst (λ n. IsSetLine (take size bytes) key flags exptime n noreply) (sym block_size) is;
        is_block = omega arith;
        follows = follows behind block_size line_size;
      }
    where
      follows : (behind : List ℕ) → length (take block_length (drop size bytes)) ≡ block_length → length (take size bytes) ≡ size
          → take (size + block_length + 2) bytes ≡ take size bytes ++ (take block_length (drop size bytes) ++ block_end)
      follows behind block_size line_size =
          let front = take size bytes in
          let block_bytes = take block_length (drop size bytes) in
          let rest = drop (block_length + 2) (drop size bytes) in
          let joined : bytes ≡ (front ++ (block_bytes ++ block_end)) ++ rest =
          sym (take-append-drop size bytes) ∙ ap (λ s. front ++ s) (block.splits ∙ sym (append_assoc block_bytes block_end rest)) ∙ sym (append_assoc front (block_bytes ++ block_end) rest) in
          let whole_size : length (front ++ (block_bytes ++ block_end)) ≡ size + block_length + 2 =
          length-append front (block_bytes ++ block_end) ∙ rw (line_size, length-append block_bytes block_end, block_size) (omega arith) in
          ap (λ s. take (size + block_length + 2) s) joined ∙ ap (λ n. take n ((front ++ (block_bytes ++ block_end)) ++ rest)) (sym whole_size)
          ∙ take-append_seam (front ++ (block_bytes ++ block_end)) rest

  set_is : (key : List ℕ) (noreply : Bool) (flags : ℕ) (exptime : ℤ) (block_length : ℕ) → block_length ≤ MAX_BLOCK
      → IsSetLine (take size bytes) key flags exptime block_length noreply → (r : Result Bool TextError) → BlockIs block_length (drop size bytes) r
      → ReadingIs bytes (set_reading bytes key flags exptime block_length noreply size r)
  set_is key noreply flags exptime block_length allowed is (Ok true) block = (
    let within = block.within in let low = read.within in let left = length-drop size bytes in omega arith,
    whole_set key noreply flags exptime block_length allowed is block,
  )
  set_is key noreply flags exptime block_length allowed is (Ok false) block = tt
  set_is key noreply flags exptime block_length allowed is (Err refusal) block =
      subst (λ e. ReadingIs bytes (Refused e 0)) (sym block.0)
      (record { block_length = block_length; after = drop size bytes; begins = begins_set key noreply flags exptime block_length is; allowed = allowed; ends = block.1 })

  line_reads : (r : Result CommandLine TextError) → LineSays (words_of line) r → ReadingIs bytes (request_of_line bytes size r)
  line_reads (Ok (GetLine keys)) h = (read.within, line_shape (GetShape keys) h.0 h.1)
  line_reads (Ok (SetLine key flags exptime block_length noreply)) h =
      set_is key noreply flags exptime block_length h.6 (set_line key h.0 h.1 h.2 noreply flags exptime block_length h.3 h.4 h.5)
      (block_reading block_length (drop size bytes)) (block_is block_length (drop size bytes))
  line_reads (Ok (DeleteLine key noreply)) h = (read.within, line_shape (DeleteShape key noreply) h.0 h.1)
  line_reads (Ok QuitLine) h = (read.within, line_shape QuitShape h tt)
  line_reads (Err (UnknownCommand true)) h = (words_of line, begins, h)
  line_reads (Err (UnknownCommand false)) h =
      (read.within, record { words = words_of line; line = take size bytes; splits = sym (take-append-drop size bytes); is_line = line_words; unknown = h })
  line_reads (Err WrongWords) h = (words_of line, begins, h)
  line_reads (Err BadKey) h = (words_of line, begins, h)
  line_reads (Err BadNumber) h = (words_of line, begins, h)
  line_reads (Err DataTooLong) h =
      (h.7, drop size bytes, begins_set h.0 h.4 h.5 h.6 h.7 (set_line h.0 h.1 h.2 h.3 h.4 h.5 h.6 h.7 h.8 h.9 h.10), h.11)
  line_reads (Err LineTooLong) h = absurd h
  line_reads (Err BadDataEnd) h = absurd h
  line_reads (Err Truncated) h = absurd h
  line_reads (Err Closed) h = absurd h
  line_reads (Err OutOfMemory) h = absurd h

pub request_is : (bytes : List ℕ) → ReadingIs bytes (request_reading bytes)
unfolding request_reading
request_is bytes = go (line_reading bytes) (line_is bytes)
  where
    go : (r : StretchReading (List ℕ)) → LineIs bytes r → ReadingIs bytes (request_of_reading bytes r)
    go Waits is = tt
    go (Gives line size) is = line_reads bytes line size is (command_line (words_of line)) (line_says (words_of line))
    go (Refused refusal size) is = subst (λ e. ReadingIs bytes (Refused e size)) (sym is.0) is.1
