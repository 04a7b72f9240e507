mod FilesKeep
