mod Triples
