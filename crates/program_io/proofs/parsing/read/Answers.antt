use Rattle.std.proofs.Common.{ap, arith, map, false, ◌∙◌, codes, Ok}
use Rattle.std.specs.Borrow.{Bor}
use Rattle.std.specs.Option.{option_map_or}
use Rattle.std.specs.Str.{bytes_eq}
use Rattle.clap.specs.Words.{Text, found_of, one_text}
use Rattle.program_io.specs.CommandLine.{number_of}
use Rattle.program_io.proofs.CommandLineLemmas.{fails_by, rows_are, text_found, value_found}
use Rattle.program_io.proofs.OptionLemmas.{grain_read, number_given, workers_read}
use Rattle.program_io.proofs.parsing.read.Goals as goal

pub returns-clause-given : goal.returns-clause-given
returns-clause-given c =
    let words = map (λ (w : Bor Text). w.now) c.args.words.now in
    let m = c.in_ok-matches.matches in
    let named = ap (map (λ (w : Bor Text). w.now)) c.as_slice.ensures.value ∙ c.in_ok-all.ensures in
    let rows = rows_are m _ _ words c.in_ok-command.ensures named c.in_ok-matches.ensures.matches in
    let workers = number_given (one_text (found_of m) (codes "workers")) 16 4 c.number.result (omega arith) (omega arith) (omega arith) (workers_read c.in_ok-command.command m c.in_ok-command.ensures c.in_ok-matches.ensures.parsed) c.number.ensures.none c.number.ensures.some in
    let grain = number_given (one_text (found_of m) (codes "grain")) 65536 1024 c.number-2.result (omega arith) (omega arith) (omega arith) (grain_read c.in_ok-command.command m c.in_ok-command.ensures c.in_ok-matches.ensures.parsed) c.number-2.ensures.none c.number-2.ensures.some in
    record {
      workers = workers.0 ∙ ap (λ t. option_map_or number_of t 4) (text_found m words (codes "workers") rows);
      grain = c.from.ensures ∙ grain.0 ∙ ap (λ t. option_map_or number_of t 1024) (text_found m words (codes "grain") rows);
      audit = c.flag.ensures ∙ ap (λ t. option_map_or (λ text. bytes_eq text (codes "true")) t false) (text_found m words (codes "audit") rows);
      journal = c.in_ok-journal.ensures ∙ c.get_str.ensures ∙ value_found m words (codes "journal") rows;
      file = c.in_ok-file.ensures ∙ c.get_str-2.ensures ∙ value_found m words (codes "file") rows;
    }

pub returns-clause-ranges : goal.returns-clause-ranges
returns-clause-ranges c =
    let m = c.in_ok-matches.matches in
    let workers = number_given (one_text (found_of m) (codes "workers")) 16 4 c.number.result (omega arith) (omega arith) (omega arith) (workers_read c.in_ok-command.command m c.in_ok-command.ensures c.in_ok-matches.ensures.parsed) c.number.ensures.none c.number.ensures.some in
    let grain = number_given (one_text (found_of m) (codes "grain")) 65536 1024 c.number-2.result (omega arith) (omega arith) (omega arith) (grain_read c.in_ok-command.command m c.in_ok-command.ensures c.in_ok-matches.ensures.parsed) c.number-2.ensures.none c.number-2.ensures.some in
    record {
      least_workers = workers.1;
      most_workers = workers.2;
      least_grain = omega (arith, c.from.ensures, grain.1);
      most_grain = omega (arith, c.from.ensures, grain.2);
    }

pub returns-clause-fault : goal.returns-clause-fault
returns-clause-fault c =
    let named = ap (map (λ (w : Bor Text). w.now)) c.as_slice.ensures.value ∙ c.in_ok-all.ensures in
    fails_by (Ok c.in_ok-matches.matches) _ _ _ c.in_ok-command.ensures named c.in_ok-matches.ensures.kinds
