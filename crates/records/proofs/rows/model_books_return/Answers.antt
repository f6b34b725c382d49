use Rattle.records.proofs.ReadsBack.{model_reads_back}
use Rattle.records.proofs.WritesBack.{model_writes_back}
use Rattle.records.proofs.BooksBack.{model_books_return}
use Rattle.records.proofs.rows.model_books_return.Goals as goal

pub returns : goal.returns
returns c = record { records = (model_reads_back, model_writes_back); books = model_books_return }
