use Rattle.linefile.proofs.Passing.{exactly}
use Rattle.linefile.proofs.reading.read_lines.Goals as goal

pub returns : goal.returns
returns g c =
    record { value = c.read_file.ensures; exactly = exactly g.L.FileLine.format c.args.text.now c.read_file.result c.read_file.ensures }
