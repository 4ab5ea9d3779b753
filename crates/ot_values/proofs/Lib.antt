mod Ascii
mod Escaping
mod Pieced
