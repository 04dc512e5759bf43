-- Files as pairs.
use Rattle.load_input.specs.declared.image_files.LoadFile.{LoadFile}
use Rattle.load_input.specs.Image.{File}

-- The path and the bytes of a file.
abbrev pub file_of : LoadFile → File
file_of file = (file.path, file.bytes)
