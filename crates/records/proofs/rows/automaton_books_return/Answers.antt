use Rattle.records.proofs.ReadsBack.{automaton_reads_back}
use Rattle.records.proofs.WritesBack.{automaton_writes_back}
use Rattle.records.proofs.BooksBack.{automaton_books_return}
use Rattle.records.proofs.rows.automaton_books_return.Goals as goal

pub returns : goal.returns
returns c = record { records = (automaton_reads_back, automaton_writes_back); books = automaton_books_return }
