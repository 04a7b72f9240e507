-- A run or a text ends as it did if the flush after it succeeds, and else with a writer that failed.
use Rattle.std.proofs.Common.{◌≡◌, ℕ, Bool, true, false, List, [], ◌∷◌, ◌++◌, Option, Some, None, Result, Ok, Err, refl, sym, ap, subst, ◌∙◌, append_assoc, inl, inr}
use Rattle.std.specs.Prelude.{unwrap_or, if◌then◌else◌}
use Rattle.std.specs.Result.{result_err}
use Rattle.std.specs.Io.KnownBytes.{Appends, Consumes, Keeps, IsAtEnd}
use Rattle.std.proofs.KnownBytes.{Appends-kept, Appends-nil, Keeps-trans}
use Rattle.std.proofs.lemmas.List.{append-nil}
use Rattle.ele_output.specs.Front.{AppendsFront}
use Rattle.ele_output.proofs.Known.{front_kept, whole_front}
use Rattle.ele_output.specs.Outlet.{Outlet}
use Rattle.ele_runs.specs.RunState.{RunState}
use Rattle.ele_runs.specs.Lines.{whole_lines}
use Rattle.ele_runs.specs.Telling.{EndsAtLine, HasTold, IsToldOf, Tells, ToldToAWriteFault, Writes, WritesFront}
use Rattle.ele_runs.specs.declared.end.EndLine.{EndLine}
use Rattle.ele_runs.specs.declared.end.RunEnd.{RunEnd}
use Rattle.ele_run_options.specs.declared.fault.ShellFault.{ShellFault}
use Rattle.ele_runs.specs.declared.tally.Tally.{Tally}
use Rattle.ele_run_options.specs.declared.fault.ShellFault.TheVariants.{ReadFault, WriteFault, TooManyLines, NoMemory}
use Rattle.ele_words.specs.Ends.{HasWritten}

-- a flush keeps what was written
kept : {Told : List ℕ → Type 0} (old mid new : Option (List ℕ)) → Writes Told old mid → Keeps mid new → Writes Told old new
kept old mid new is same = record { text = is.text; told = is.told; written = Appends-kept old mid new is.text is.written same }

kept_front : {Told : List ℕ → Type 0} (old mid new : Option (List ℕ)) → WritesFront Told old mid → Keeps mid new → WritesFront Told old new
kept_front old mid new is same = record { text = is.text; told = is.told; written = front_kept old mid new is.text is.written same }

kept_run : (start : RunState) (input rest old mid new : Option (List ℕ)) (notes : Outlet) (ended : Result RunEnd ShellFault) → Tells start input rest old mid notes ended → Keeps mid new → Tells start input rest old new notes ended
kept_run start input rest old mid new notes (Ok end) ran same = kept old mid new ran same
kept_run start input rest old mid new notes (Err ReadFault) ran same = kept old mid new ran same
kept_run start input rest old mid new notes (Err TooManyLines) ran same = kept old mid new ran same
kept_run start input rest old mid new notes (Err WriteFault) ran same = kept_front old mid new ran same
kept_run start input rest old mid new notes (Err NoMemory) ran same = (ran.0, Keeps-trans old mid new ran.1 same, ran.2)

-- what is known to be left of an input
abbrev left : Option (List ℕ) → List ℕ
left rest = unwrap_or rest []

-- an input is what was taken of it, and what is left
taken_is : (input rest : Option (List ℕ)) (given lines part : List ℕ) → Consumes input rest given → given ≡ lines ++ part → Keeps input (Some (lines ++ (part ++ left rest)))
taken_is None rest given lines part taken are = tt
taken_is (Some xs) None given lines part taken are = absurd taken
taken_is (Some xs) (Some ys) given lines part taken are = sym (taken ∙ ap (λ (zs : List ℕ). zs ++ ys) are ∙ append_assoc lines part ys)

all_is : (input rest : Option (List ℕ)) (given lines last : List ℕ) → Consumes input rest given → IsAtEnd rest → given ≡ lines ++ last → Keeps input (Some (lines ++ last))
all_is None rest given lines last taken at_end are = tt
all_is (Some xs) None given lines last taken at_end are = absurd taken
all_is (Some xs) (Some ys) given lines last taken at_end are = sym (taken ∙ ap (λ (zs : List ℕ). given ++ zs) at_end ∙ append-nil given ∙ are)

untaken : (input : Option (List ℕ)) → Keeps input (Some (left input))
untaken None = tt
untaken (Some xs) = refl

-- if nothing was written, a prefix of any text was
front_of_kept : (old new : Option (List ℕ)) (bytes : List ℕ) → Keeps old new → AppendsFront old new bytes
front_of_kept old new bytes same = record { front = []; back = bytes; parts = refl; written = Appends-kept old old new [] (Appends-nil old) same }

-- what a run that ended in any way has written, one whose writer failed may have written too
cut_failed : (start : RunState) (is_cut : Bool) (input rest : Option (List ℕ)) (notes : Outlet) (given : List ℕ) (lines : List (List ℕ)) (line text : List ℕ)
    → Consumes input rest given → EndsAtLine is_cut start given rest lines line notes text → ToldToAWriteFault start input notes text
cut_failed start false input rest notes given lines line text taken by = record {
  lines = lines ++ line ∷ [];
  rest = by.behind ++ left rest;
  blocks = text;
  state = by.state;
  input_is = taken_is input rest given (whole_lines (lines ++ line ∷ [])) by.behind taken by.parts;
  whole = by.whole;
  told = by.told;
  reaches = inl (refl, by.noted);
}
cut_failed start true input rest notes given lines line text taken by = record {
  lines = lines;
  rest = line;
  blocks = by.blocks;
  state = by.state;
  input_is = all_is input rest given (whole_lines lines) line taken by.at_end by.is.are.parts;
  whole = by.is.are.whole;
  told = by.is.told;
  reaches = inr (by.is.are.cut, by.text_is, by.noted);
}

end_failed : (start : RunState) (n : ℕ) (ended_by : Option EndLine) (tally : Tally) (input rest : Option (List ℕ)) (notes : Outlet) (text : List ℕ) → HasTold start input rest notes n ended_by tally text → ToldToAWriteFault start input notes text
end_failed start n None tally input rest notes text (ran, counts) = record {
  lines = ran.lines;
  rest = ran.last;
  blocks = ran.blocks;
  state = ran.state;
  input_is = all_is input rest ran.given (whole_lines ran.lines) ran.last ran.taken ran.at_end ran.is.are.parts;
  whole = ran.is.are.whole;
  told = ran.is.told;
  reaches = inr (ran.is.are.cut, ran.text_is, ran.noted);
}
end_failed start n (Some end) tally input rest notes text ran = cut_failed start end.is_cut input rest notes ran.given ran.lines ran.line text ran.taken ran.by

-- so for whole lines, whatever was read after them
part_failed : (start state : RunState) (input rest : Option (List ℕ)) (notes : Outlet) (given more : List ℕ) (lines : List (List ℕ)) (part text : List ℕ)
    → Consumes input rest (given ++ more) → IsToldOf start given lines part text state → notes ≡ state.notes → ToldToAWriteFault start input notes text
part_failed start state input rest notes given more lines part text taken is noted = record {
  lines = lines;
  rest = (part ++ more) ++ left rest;
  blocks = text;
  state = state;
  input_is = taken_is input rest (given ++ more) (whole_lines lines) (part ++ more) taken (ap (λ (zs : List ℕ). zs ++ more) is.are.parts ∙ append_assoc (whole_lines lines) part more);
  whole = is.are.whole;
  told = is.told;
  reaches = inl (refl, noted);
}

as_front : {Told Failed : List ℕ → Type 0} (old new : Option (List ℕ)) → (is : Writes Told old new) → Failed is.text → WritesFront Failed old new
as_front old new is failed = record { text = is.text; told = failed; written = whole_front old new is.text is.written }

as_write_fault : (start : RunState) (input rest old new : Option (List ℕ)) (notes : Outlet) (ended : Result RunEnd ShellFault) → Tells start input rest old new notes ended → WritesFront (ToldToAWriteFault start input notes) old new
as_write_fault start input rest old new notes (Ok end) ran = as_front old new ran (end_failed start end.lines end.ended_by end.tally input rest notes ran.text ran.told)
as_write_fault start input rest old new notes (Err ReadFault) ran =
    let taken = subst (Consumes input rest) (sym (append-nil ran.told.given)) ran.told.taken in
    as_front old new ran (part_failed start ran.told.state input rest notes ran.told.given [] ran.told.lines ran.told.part ran.text taken ran.told.is ran.told.noted)
as_write_fault start input rest old new notes (Err TooManyLines) ran =
    as_front old new ran (part_failed start ran.told.state input rest notes ran.told.given (ran.told.byte ∷ []) ran.told.lines ran.told.part ran.text ran.told.taken ran.told.is ran.told.noted)
as_write_fault start input rest old new notes (Err WriteFault) ran = ran
as_write_fault start input rest old new notes (Err NoMemory) ran = record {
  text = [];
  told = record { lines = []; rest = left input; blocks = []; state = start; input_is = untaken input; whole = tt; told = (refl, refl); reaches = inl (refl, ran.2) };
  written = front_of_kept old new [] ran.1;
}

-- a run, and then a flush
pub run_flushed : (start : RunState) (input rest old mid new : Option (List ℕ)) (notes : Outlet) (ran : Result RunEnd ShellFault) (is_flushed : Bool) (ended : Result RunEnd ShellFault)
    → Tells start input rest old mid notes ran → Keeps mid new → ended ≡ (if is_flushed then ran else Err WriteFault) → Tells start input rest old new notes ended
run_flushed start input rest old mid new notes ran true ended has same is = rw is (kept_run start input rest old mid new notes ran has same)
run_flushed start input rest old mid new notes ran false ended has same is = rw is (kept_front old mid new (as_write_fault start input rest old mid notes ran has) same)

-- all of a text was written
pub text_flushed : {A : Type 0} (text : List ℕ) (old mid new : Option (List ℕ)) (x : A) (is_flushed : Bool) (ended : Result A ShellFault) → Appends old mid text → Keeps mid new → ended ≡ (if is_flushed then Ok x else Err WriteFault)
    → HasWritten text old new (result_err ended)
text_flushed text old mid new x true ended all same is = rw is (Appends-kept old mid new text all same)
text_flushed text old mid new x false ended all same is = rw is (front_kept old mid new text (whole_front old mid text all) same)
